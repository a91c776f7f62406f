-- Reading by a record of places: of any bytes, by any record. Document 02, Ask 11: "For other bytes or a made-up record a query still answers: 26 and
-- lengths by the record first; then it reads at the recorded places if all it needs lies inside and any reference on its way is good, and otherwise
-- gives 29".
use Rattle.std.specs.Prelude.{Bool, true, ◌&&◌, List, [], ℕ, ◌+◌, ◌*◌, leb, ltb, length, get_or, take, drop}
use Rattle.constants.specs.Edition.{size_of}
use Rattle.wire.specs.Choice.{choose}
use Rattle.wire.specs.Number.{u32_at}
use Rattle.wire.specs.Verdict.{Verdict, Accepted, Refused}
use Rattle.psv0_layout.specs.Field.{vertex_count, vertex_stage, patch_byte, patch_stage, topology, mesh_stage, thread_count, thread_stage, sum, name_offset_of, index_reference_of, row_count}
use Rattle.psv0_layout.specs.Layout.{rows, Body, Seen, no_body, resource_width}
use Rattle.psv0_layout.specs.Reference.{string_good, index_good}
use Rattle.psv0_layout.specs.Shown.{Value, unset, number, view, Question, stage_union, least_lanes, most_lanes, stage_number, uses_view, max_vertex_count, patch_vector_count, mesh_topology, input_elements, output_elements, patch_elements, input_vector_count, output_vector_count, threads, entry_name_offset_of, resource_field, element_field, element_string, element_points, element_array, mask, entry_name, entry_points, resource_count, string_bytes, index_count, element_count, needs, value}
use Rattle.places_layout.specs.declared.SectionPlaces.{SectionPlaces}

-- ---- what stands at the recorded places; past the end there are no bytes
unfoldable pub body_by : SectionPlaces → List ℕ → Body
body_by p b =
    record {
      strings = take p.string_bytes (drop p.strings b);
      indices = take (p.index_count * 4) (drop p.indices b);
      elements = rows 16 p.element_count p.element_size (drop p.elements b);
      masks = take (sum p.mask_words * 4) (drop p.masks b);
    }

unfoldable pub seen_by : SectionPlaces → List ℕ → ℕ → Seen
seen_by p b e =
    record {
      runtime = take (size_of e) (drop p.runtime b);
      resources = rows (resource_width e p.resource_size) p.resource_count p.resource_size (drop p.resources b);
      body = choose (leb 1 e) (body_by p b) no_body;
    }

-- ---- where the record has what a question asks for
pub data Source : Type 0 where
  -- a field of the runtime record, where there is one of that number
  in_runtime : Bool → Source
  -- a number of the runtime record, which the recorded stage has or has not
  of_stage : Bool → (List ℕ → ℕ) → Source
  -- field f of resource record i, field f of element record i
  in_resource in_element : ℕ → ℕ → Source
  -- the string and the index array of element i, mask m
  a_string an_array a_mask : ℕ → Source
  the_name : Source
  -- a list's length
  a_length : ℕ → Source

unfoldable pub source_of : SectionPlaces → Question → Source
source_of p stage_union = in_runtime true
source_of p least_lanes = in_runtime true
source_of p most_lanes = in_runtime true
source_of p stage_number = in_runtime true
source_of p uses_view = in_runtime true
source_of p max_vertex_count = of_stage (vertex_stage p.stage) vertex_count
source_of p patch_vector_count = of_stage (patch_stage p.stage) patch_byte
source_of p mesh_topology = of_stage (mesh_stage p.stage) topology
source_of p input_elements = in_runtime true
source_of p output_elements = in_runtime true
source_of p patch_elements = in_runtime true
source_of p input_vector_count = in_runtime true
source_of p (output_vector_count i) = in_runtime (ltb i 4)
source_of p (threads i) = of_stage (ltb i 3 && thread_stage p.stage) (thread_count i)
source_of p entry_name_offset_of = in_runtime true
source_of p (resource_field i f) = in_resource i f
source_of p (element_field i f) = in_element i f
source_of p (element_string i) = a_string i
source_of p (element_points i) = a_string i
source_of p (element_array i) = an_array i
source_of p (mask m) = a_mask m
source_of p entry_name = the_name
source_of p entry_points = the_name
source_of p resource_count = a_length p.resource_count
source_of p string_bytes = a_length p.string_bytes
source_of p index_count = a_length p.index_count
source_of p element_count = a_length p.element_count

module _ (p : SectionPlaces) where
  -- "26 .. by the record first": it is there
  unfoldable pub is_there : Source → Bool
  is_there (in_runtime t) = t
  is_there (of_stage t f) = t
  is_there (in_resource i f) = ltb i p.resource_count && (ltb f 6 && leb (f * 4 + 4) (resource_width (choose (ltb f 4) 0 2) p.resource_size))
  is_there (in_element i f) = ltb i p.element_count && ltb f 13
  is_there (a_string i) = ltb i p.element_count
  is_there (an_array i) = ltb i p.element_count
  is_there (a_mask m) = ltb m 11
  is_there the_name = true
  is_there (a_length n) = true

  module _ (b : List ℕ) where
    -- n bytes at a place lie inside
    abbrev pub inside : ℕ → ℕ → Bool
    inside at n = leb (at + n) (length b)

    abbrev pub runtime_inside : Bool
    runtime_inside = inside p.runtime (size_of p.edition)

    abbrev pub element_inside : ℕ → Bool
    element_inside i = inside (p.elements + i * p.element_size) 16

    abbrev pub strings_inside : Bool
    strings_inside = inside p.strings p.string_bytes

    abbrev pub indices_inside : Bool
    indices_inside = inside p.indices (p.index_count * 4)

    -- element i, and the entry name's reference
    abbrev pub element_by : ℕ → List ℕ
    element_by i = get_or (body_by p b).elements i []

    abbrev pub entry_by : ℕ
    entry_by = u32_at (seen_by p b 3).runtime 48

    -- where mask m starts, and its bytes
    abbrev pub mask_place : ℕ → ℕ
    mask_place m = p.masks + sum (take m p.mask_words) * 4

    abbrev pub mask_length : ℕ → ℕ
    mask_length m = get_or p.mask_words m 0 * 4

    -- "if all it needs lies inside and any reference on its way is good". A field of the runtime record, and the stage union, needs that record up
    -- to the size of the edition read; a field of a resource or element record needs the fields that the edition read knows of that record; a
    -- string needs its element's record and the whole recorded string table; an array its element's record and the whole recorded index table; the entry
    -- name the runtime record and the whole string table; a mask its own words; a length nothing
    unfoldable pub readable : Source → Bool
    readable (in_runtime t) = runtime_inside
    readable (of_stage t f) = runtime_inside
    readable (in_resource i f) = inside (p.resources + i * p.resource_size) (resource_width p.edition p.resource_size)
    readable (in_element i f) = element_inside i
    readable (a_string i) = element_inside i && strings_inside && string_good (body_by p b).strings (name_offset_of (element_by i))
    readable (an_array i) = element_inside i && indices_inside && index_good (body_by p b).indices (index_reference_of (element_by i)) (row_count (element_by i))
    readable (a_mask m) = inside (mask_place m) (mask_length m)
    readable the_name = runtime_inside && strings_inside && string_good (body_by p b).strings entry_by
    readable (a_length n) = true

    -- the value: a length by the record, a mask at its recorded size, a number that the recorded stage has; all else is x, what a reader shows of
    -- what stands at the places, v
    unfoldable pub value_by : Source → Seen → Value → Value
    value_by (in_runtime t) v x = x
    value_by (of_stage t f) v x = number (f v.runtime)
    value_by (in_resource i f) v x = x
    value_by (in_element i f) v x = x
    value_by (a_string i) v x = x
    value_by (an_array i) v x = x
    value_by (a_mask m) v x = view (take (mask_length m) (drop (mask_place m) b))
    value_by the_name v x = x
    value_by (a_length n) v x = number n

-- ---- answers: a verdict, and the value beside it
pub record Answer : Type 0 where
  pub verdict : Verdict
  pub value : Value

abbrev pub given : Value → Answer
given x = record { verdict = Accepted; value = x }

abbrev pub refusal : ℕ → Answer
refusal n = record { verdict = Refused n 0; value = unset }

-- "26 and lengths by the record first; then it reads at the recorded places if .., and otherwise gives 29"
unfoldable pub answered_from : SectionPlaces → List ℕ → Source → Seen → Value → Answer
answered_from p b t v x = choose (is_there p t) (choose (readable p b t) (given (value_by p b t v x)) (refusal 29)) (refusal 26)

-- what the record p answers a question with, of the bytes b; a question needs the edition from which on it is set
unfoldable pub answered_by : SectionPlaces → List ℕ → Question → Answer
answered_by p b q =
    choose (leb (needs q) p.edition)
    (answered_from p b (source_of p q) (seen_by p b (needs q)) (value q (seen_by p b (needs q))))
    (refusal 26)
