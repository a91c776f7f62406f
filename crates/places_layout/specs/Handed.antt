-- The bytes of a section that are handed out for writing again, by a record of places: of any bytes, by any record.
use Rattle.std.specs.Prelude.{List, ℕ, ◌+◌, ◌*◌, leb, length, take, drop}
use Rattle.constants.specs.Edition.{size_of}
use Rattle.wire.specs.Choice.{choose}
use Rattle.psv0_layout.specs.Field.{sum}
use Rattle.psv0_layout.specs.Handed.{Section, runtime_record, resource_records, string_table, index_table, element_records, masks}
use Rattle.psv0_layout.specs.Shown.{view}
use Rattle.places_layout.specs.Read.{Answer, given, refusal}
use Rattle.places_layout.specs.declared.SectionPlaces.{SectionPlaces}

-- a number of sections 3 to 6: 0 at edition read 0, which has none of them
abbrev pub later_by : ℕ → ℕ → ℕ
later_by e n = choose (leb 1 e) n 0

-- where a section's bytes start, and how many there are
unfoldable pub start_by : SectionPlaces → ℕ → Section → ℕ
start_by p e runtime_record = p.runtime
start_by p e resource_records = p.resources
start_by p e string_table = later_by e p.strings
start_by p e index_table = later_by e p.indices
start_by p e element_records = later_by e p.elements
start_by p e masks = later_by e p.masks

unfoldable pub length_by : SectionPlaces → ℕ → Section → ℕ
length_by p e runtime_record = size_of e
length_by p e resource_records = p.resource_count * p.resource_size
length_by p e string_table = later_by e p.string_bytes
length_by p e index_table = later_by e (p.index_count * 4)
length_by p e element_records = later_by e (p.element_count * p.element_size)
length_by p e masks = later_by e (sum p.mask_words * 4)

-- the n bytes at a place where they lie inside, else 29
abbrev pub stretch_in : List ℕ → ℕ → ℕ → Answer
stretch_in b at n = choose (leb (at + n) (length b)) (given (view (take n (drop at b)))) (refusal 29)

unfoldable pub handed_by : SectionPlaces → List ℕ → Section → Answer
handed_by p b t = stretch_in b (start_by p p.edition t) (length_by p p.edition t)
