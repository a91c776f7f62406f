-- What the queries answer, from a verdict and what a reading shows; the same for PSV0 data alone and for a container.
use Rattle.std.specs.Prelude.{◌≡◌, List, [], Option, None, Some, Result, Ok, Err, ℕ, ◌+◌, ◌≤◌, length, take, drop}
use Rattle.wire.specs.Verdict.{under, verdict_of, Verdict, Accepted, Refused}
use Rattle.wire.specs.declared.Refusal.{Refusal}
use Rattle.psv0_layout.specs.Handed as handed
use Rattle.psv0_layout.specs.Shown.{Value, unset, number, view, Question, stage_union, least_lanes, most_lanes, stage_number, uses_view, max_vertex_count, patch_vector_count, mesh_topology, input_elements, output_elements, patch_elements, input_vector_count, output_vector_count, threads, entry_name_offset_of, resource_field, element_field, element_string, element_points, element_array, mask, entry_name, entry_points, resource_count, string_bytes, index_count, element_count, queried}
use Rattle.psv0_layout.specs.declared.ElementRecord.{ElementRecord}
use Rattle.psv0_layout.specs.declared.ListLengths.{ListLengths}
use Rattle.psv0_layout.specs.declared.Opening.{Opening}
use Rattle.psv0_layout.specs.declared.ResourceRecord.{ResourceRecord}
use Rattle.psv0_layout.specs.declared.RuntimeInfo.{RuntimeInfo}
use Rattle.psv0_layout.specs.declared.Section.{Section}
use Rattle.psv0_layout.specs.declared.Section.TheVariants.{RuntimeRecord, ResourceRecords, StringTable, IndexTable, ElementRecords, Masks}
use Rattle.psv0_layout.specs.declared.Span.{Span}
use Rattle.psv0_layout.specs.declared.View.{View}
use Rattle.psv0_layout.specs.declared.View.TheVariants.{StageUnion, ElementString, ElementArray, EntryName, Mask}

-- the enum's case for a value that is a number or unset
abbrev pub field_of : Value → Option ℕ
field_of unset = None
field_of (number n) = Some n
field_of (view l) = None

-- the bytes of a value that is a view; none where it is unset
abbrev pub bytes_of : Value → List ℕ
bytes_of unset = []
bytes_of (number n) = []
bytes_of (view l) = l

-- a number or bytes that stand beside a verdict: nothing beside a refusal
abbrev pub number_beside : Verdict → ℕ → ℕ
number_beside Accepted n = n
number_beside (Refused m p) n = 0

abbrev pub bytes_beside : Verdict → List ℕ → List ℕ
bytes_beside Accepted l = l
bytes_beside (Refused m p) l = []

-- what an opening answers, by its verdict: the file's edition f and the edition read e
abbrev pub opening_of : Verdict → ℕ → ℕ → Result Opening Refusal
opening_of o f e = under o (record { file_edition = f; edition_read = e })

-- the runtime record's fields, from what is shown of each question
unfoldable pub info_of : (Question → Value) → RuntimeInfo
info_of a =
    record {
      minimum_wave_lanes = field_of (a least_lanes);
      maximum_wave_lanes = field_of (a most_lanes);
      stage = field_of (a stage_number);
      uses_view_id = field_of (a uses_view);
      max_vertex_count = field_of (a max_vertex_count);
      patch_vectors = field_of (a patch_vector_count);
      mesh_topology = field_of (a mesh_topology);
      input_elements = field_of (a input_elements);
      output_elements = field_of (a output_elements);
      patch_elements = field_of (a patch_elements);
      input_vectors = field_of (a input_vector_count);
      output_vectors_0 = field_of (a (output_vector_count 0));
      output_vectors_1 = field_of (a (output_vector_count 1));
      output_vectors_2 = field_of (a (output_vector_count 2));
      output_vectors_3 = field_of (a (output_vector_count 3));
      threads_x = field_of (a (threads 0));
      threads_y = field_of (a (threads 1));
      threads_z = field_of (a (threads 2));
      entry_name_offset = field_of (a entry_name_offset_of);
    }

-- a resource record and an element record, from their fields by number
unfoldable pub resource_of : (ℕ → Option ℕ) → ResourceRecord
resource_of f =
    record {
      binding_type = f 0;
      space = f 1;
      lower_bound = f 2;
      upper_bound = f 3;
      kind = f 4;
      flags = f 5;
    }

unfoldable pub element_of : (ℕ → Option ℕ) → ElementRecord
element_of f =
    record {
      name_offset = f 0;
      index_reference = f 1;
      rows = f 2;
      start_row = f 3;
      columns = f 4;
      start_column = f 5;
      allocated = f 6;
      semantic_kind = f 7;
      component_type = f 8;
      interpolation = f 9;
      dynamic_mask = f 10;
      stream = f 11;
      reserved = f 12;
    }

unfoldable pub lengths_of : (Question → Value) → ListLengths
lengths_of a =
    record {
      resources = field_of (a resource_count);
      strings = field_of (a string_bytes);
      indices = field_of (a index_count);
      elements = field_of (a element_count);
    }

-- o is what opening gives, a what is shown of each question
module _ (o : Verdict) (a : Question → Value) where
  unfoldable pub info_answer_of : Result RuntimeInfo Refusal
  info_answer_of = under o (info_of a)

  -- 26 where there is no record i: its first field is unset
  unfoldable pub resource_answer_of : ℕ → Result ResourceRecord Refusal
  resource_answer_of i = under (queried o (a (resource_field i 0))) (resource_of (λ f. field_of (a (resource_field i f))))

  unfoldable pub element_answer_of : ℕ → Result ElementRecord Refusal
  element_answer_of i = under (queried o (a (element_field i 0))) (element_of (λ f. field_of (a (element_field i f))))

  unfoldable pub lengths_answer_of : Result ListLengths Refusal
  lengths_answer_of = under o (lengths_of a)

-- the question that a view asks
abbrev pub question_of : View → Question
question_of StageUnion = stage_union
question_of (ElementString i) = element_string i
question_of (ElementArray i) = element_array i
question_of EntryName = entry_name
question_of (Mask m) = mask m

-- the code points beside a view, a being what is shown of each question: those of a string that is set, else unset
abbrev pub points_in : Value → Option ℕ
points_in unset = None
points_in (number n) = Some n
points_in (view l) = None

abbrev pub points_of : View → (Question → Value) → Option ℕ
points_of StageUnion a = None
points_of (ElementString i) a = points_in (a (element_points i))
points_of (ElementArray i) a = None
points_of EntryName a = points_in (a entry_points)
points_of (Mask m) a = None

-- the section that an enum's case names
abbrev pub section_of : Section → handed.Section
section_of RuntimeRecord = handed.runtime_record
section_of ResourceRecords = handed.resource_records
section_of StringTable = handed.string_table
section_of IndexTable = handed.index_table
section_of ElementRecords = handed.element_records
section_of Masks = handed.masks

-- a span of the data d has the bytes l, with the code points c: it lies inside. Where l is empty the start is left free
pub record SpanOf (d : List ℕ) (l : List ℕ) (c : Option ℕ) (x : Span) : Type 0 where
  pub inside : x.start + x.len ≤ length d
  pub bytes : take x.len (drop x.start d) ≡ l
  pub points : x.points ≡ c

-- an answer s shows the bytes l of the data d under the verdict v, with the code points c: a span of them, or the refusal, where there are
-- no bytes and no code points
pub record SpanShows (d : List ℕ) (v : Verdict) (l : List ℕ) (c : Option ℕ) (s : Result Span Refusal) : Type 0 where
  pub verdict : verdict_of s ≡ v
  pub shown : {x : Span} → s ≡ Ok x → SpanOf d l c x
  pub refused : {r : Refusal} → s ≡ Err r → (l ≡ []) × (c ≡ None)
