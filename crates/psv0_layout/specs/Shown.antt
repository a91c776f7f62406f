-- What a reading shows. "Each value is either set, with its number, or unset; a field outside its stage or edition is unset."
use Rattle.std.specs.Prelude.{Bool, true, false, ◌&&◌, List, [], ◌∷◌, ℕ, ◌+◌, ◌*◌, ◌/◌, ◌%◌, leb, ltb, length, get_or, take, drop}
use Rattle.utf8_layout.specs.Sequence.{code_points}
use Rattle.wire.specs.Choice.{choose}
use Rattle.wire.specs.Number.{u32_at}
use Rattle.wire.specs.Verdict.{◌then◌, check, Verdict, Accepted, Refused}
use Rattle.psv0_layout.specs.Field.{stage, uses_view_id_of, output_vectors, input_vectors_of, vertex_count, vertex_stage, patch_byte, patch_stage, topology, mesh_stage, thread_count, thread_stage, mask_words_of, sum, name_offset_of, index_reference_of, row_count}
use Rattle.psv0_layout.specs.Judged.{opened}
use Rattle.psv0_layout.specs.Layout.{Body, Seen, seen, sections, edition_read_of}
use Rattle.psv0_layout.specs.Reference.{string_at, array_at, index_total}

-- a value: unset, a number, or a view of bytes
pub data Value : Type 0 where
  unset : Value
  number : ℕ → Value
  view : List ℕ → Value

-- what can be asked of a reading: "every field of the runtime record and of each resource and element record, each element's string
-- and index array, the entry name, masks 0 to 10, and the lists' lengths"; document 02, Ask 7: of a string "also .. how many code points there
-- are"
pub data Question : Type 0 where
  stage_union least_lanes most_lanes : Question
  stage_number uses_view max_vertex_count patch_vector_count mesh_topology : Question
  input_elements output_elements patch_elements input_vector_count : Question
  output_vector_count threads : ℕ → Question
  entry_name_offset_of : Question
  resource_field element_field : ℕ → ℕ → Question
  element_string element_array mask : ℕ → Question
  element_points : ℕ → Question
  entry_name entry_points : Question
  resource_count string_bytes index_count element_count : Question

-- the edition from which on it is set
abbrev pub needs : Question → ℕ
needs stage_union = 0
needs least_lanes = 0
needs most_lanes = 0
needs stage_number = 1
needs uses_view = 1
needs max_vertex_count = 1
needs patch_vector_count = 1
needs mesh_topology = 1
needs input_elements = 1
needs output_elements = 1
needs patch_elements = 1
needs input_vector_count = 1
needs (output_vector_count i) = 1
needs (threads i) = 2
needs entry_name_offset_of = 3
needs (resource_field i f) = choose (ltb f 4) 0 2
needs (element_field i f) = 1
needs (element_string i) = 1
needs (element_points i) = 1
needs (element_array i) = 1
needs (mask m) = 1
needs entry_name = 3
needs entry_points = 3
needs resource_count = 0
needs string_bytes = 1
needs index_count = 1
needs element_count = 1

-- a value where the test is true
abbrev pub set_if : Bool → Value → Value
set_if t x = choose t x unset

-- "Fields, 4 bytes each: type, space, lower bound, upper bound; then kind and flags": field f of record i of rs, where the record has it
abbrev pub of_resource : List (List ℕ) → ℕ → ℕ → Value
of_resource rs i f = set_if (ltb f 6 && leb (f * 4 + 4) (length (get_or rs i []))) (number (u32_at (get_or rs i []) (f * 4)))

-- "Element record: name offset (4), index reference (4), rows, start row, one byte with columns (bits 0 to 3), start column (4, 5) and
-- allocated (6), semantic kind, component type, interpolation, one byte with dynamic mask (0 to 3) and stream (4, 5), reserved"
abbrev pub element_fields : List ℕ → List ℕ
element_fields e =
    name_offset_of e
    ∷ index_reference_of e
    ∷ row_count e
    ∷ get_or e 9 0
    ∷ get_or e 10 0 % 16
    ∷ get_or e 10 0 / 16 % 4
    ∷ get_or e 10 0 / 64 % 2
    ∷ get_or e 11 0
    ∷ get_or e 12 0
    ∷ get_or e 13 0
    ∷ get_or e 14 0 % 16
    ∷ get_or e 14 0 / 16 % 4
    ∷ get_or e 15 0
    ∷ []

-- a value of element i, where there is one
abbrev pub of_element : Body → ℕ → Value → Value
of_element b i x = set_if (ltb i (length b.elements)) x

-- mask m: its words, after those of the masks before it
abbrev pub mask_at : List ℕ → List ℕ → ℕ → List ℕ
mask_at r masks m = take (get_or (mask_words_of r) m 0 * 4) (drop (sum (take m (mask_words_of r)) * 4) masks)

-- the value of a question, of what a reading at the edition that it needs looks at
unfoldable pub value : Question → Seen → Value
value stage_union v = view (take 16 v.runtime)
value least_lanes v = number (u32_at v.runtime 16)
value most_lanes v = number (u32_at v.runtime 20)
value stage_number v = number (stage v.runtime)
value uses_view v = number (uses_view_id_of v.runtime)
value max_vertex_count v = set_if (vertex_stage (stage v.runtime)) (number (vertex_count v.runtime))
value patch_vector_count v = set_if (patch_stage (stage v.runtime)) (number (patch_byte v.runtime))
value mesh_topology v = set_if (mesh_stage (stage v.runtime)) (number (topology v.runtime))
value input_elements v = number (get_or v.runtime 28 0)
value output_elements v = number (get_or v.runtime 29 0)
value patch_elements v = number (get_or v.runtime 30 0)
value input_vector_count v = number (input_vectors_of v.runtime)
value (output_vector_count i) v = set_if (ltb i 4) (number (output_vectors v.runtime i))
value (threads i) v = set_if (ltb i 3 && thread_stage (stage v.runtime)) (number (thread_count i v.runtime))
value entry_name_offset_of v = number (u32_at v.runtime 48)
value (resource_field i f) v = of_resource v.resources i f
value (element_field i f) v = of_element v.body i (set_if (ltb f 13) (number (get_or (element_fields (get_or v.body.elements i [])) f 0)))
value (element_string i) v = of_element v.body i (view (string_at v.body.strings (name_offset_of (get_or v.body.elements i []))))
value (element_points i) v = of_element v.body i (number (code_points (string_at v.body.strings (name_offset_of (get_or v.body.elements i [])))))
value (element_array i) v =
    of_element v.body i (view (array_at v.body.indices (index_reference_of (get_or v.body.elements i [])) (row_count (get_or v.body.elements i []))))
value (mask m) v = set_if (ltb m 11) (view (mask_at v.runtime v.body.masks m))
value entry_name v = view (string_at v.body.strings (u32_at v.runtime 48))
value entry_points v = number (code_points (string_at v.body.strings (u32_at v.runtime 48)))
value resource_count v = number (length v.resources)
value string_bytes v = number (length v.body.strings)
value index_count v = number (index_total v.body.indices)
value element_count v = number (length v.body.elements)

-- what a reading at edition read er shows of PSV0 data; "in 0 all of sections 3 to 6 is unset, list lengths too"
unfoldable pub shown_at : ℕ → List ℕ → Question → Value
shown_at er d q = set_if (leb (needs q) er) (value q (seen (needs q) (sections d)))

-- what reader k shows of them
abbrev pub shown : ℕ → List ℕ → Question → Value
shown k d q = shown_at (edition_read_of k d) d q

abbrev pub is_set : Value → Bool
is_set unset = false
is_set (number n) = true
is_set (view l) = true

-- a value that stands beside a verdict: unset beside a refusal
abbrev pub beside : Verdict → Value → Value
beside Accepted x = x
beside (Refused n p) x = unset

-- "a query gives what opening gives, then 26": "something unset"
unfoldable pub queried : Verdict → Value → Verdict
queried o x = o then check (is_set x) 26 0

-- what reader k answers a question with: nothing of the file where the opening refuses
unfoldable pub answered : ℕ → List ℕ → Question → Value
answered k d q = beside (opened k d) (shown k d q)
