-- Worked boxes, as rows of one list: what the definitions give, and beside it what document 02 says.
-- Assumes nothing.
use Rattle.std.specs.Prelude.{Result, Ok, Err}
use Prim.Native.Nat.{ℕ, ◌+◌}
use mathlib.Core.Path.{◌≡◌, refl}
use mathlib.Core.List.{List, [], ◌∷◌, ◌++◌}
use lib.ListN.{length, replicate}
use Rattle.wire.specs.Number.{u16_at, u32_at, le32}
use Rattle.wire.specs.Verdict.{◌then◌, check, when, from, each, under}
use Rattle.wire.specs.declared.Refusal.{Refusal}
use Rattle.part_table_layout.specs.Lookup.{find}
use Rattle.part_table_layout.specs.Table.{count_of, offset_at, offset_bytes, name_at, size_at, data_at, end_at, earliest, part_judged, may_repeat, may_stand, name_judged, header_judged, parts_judged, table_judged}
use Rattle.utf8_layout.specs.Sequence.{table, fits, front, more, after, counted as sequences_of, well_formed}
use Rattle.psv0_layout.specs.Field.{mask_words_of, sum}
use Rattle.psv0_layout.specs.Judged.{head_judged, fields_judged, body_fits, element_judged, elements_judged, entry_judged, judged_at, opened}
use Rattle.psv0_layout.specs.Layout.{counted, after_counted, counted_fits, records, after_records, records_fit, rows, sections, body_of, seen}
use Rattle.psv0_layout.specs.Position.{next_records, stride_at, first_record, resources_start, strings_start, indices_start, elements_start, masks_start}
use Rattle.psv0_layout.specs.Reference.{has_zero, until_zero, string_ends, string_good, string_at}
use Rattle.places_layout.specs.Placed.{head_only, head_at, whole_at, places_at}
use Rattle.places_layout.specs.declared.SectionPlaces.{SectionPlaces}
use Rattle.container_layout.specs.Container.{psv_of, before_psv, container_judged}
use Rattle.container_layout.specs.Placed.{container_places}
use Rattle.container_layout.proofs.Boxes.{psv_m, psv_c, boxed}
use Rattle.replacing_layout.specs.Answer.{replacement_of, output_of}
use Rattle.replacing_layout.specs.Judged.{is_plain, new_judged, replacing_judged}
use Rattle.replacing_layout.specs.Replaced.{replaced_at, replaced}
use Rattle.replacing_layout.specs.declared.Replacement.{Replacement}

-- a number below 256, in four bytes
abbrev word : ℕ → List ℕ
word n = n ∷ 0 ∷ 0 ∷ 0 ∷ []

-- three parts: DXIL, PSV0 with the data d, and after a gap of two bytes a third, with a byte after it
abbrev followed : List ℕ → List ℕ
followed d =
    (68 ∷ 88 ∷ 66 ∷ 67 ∷ []) ++ replicate 16 3 ++ (1 ∷ 0 ∷ 0 ∷ 0 ∷ []) ++ word (78 + length d) ++ word 3 ++ word 44 ++ word 56
    ++ word (66 + length d)
    ++ (68 ∷ 88 ∷ 73 ∷ 76 ∷ []) ++ word 4 ++ word 7
    ++ (80 ∷ 83 ∷ 86 ∷ 48 ∷ []) ++ word (length d) ++ d ++ (5 ∷ 6 ∷ [])
    ++ (83 ∷ 84 ∷ 65 ∷ 84 ∷ []) ++ word 3 ++ (1 ∷ 2 ∷ 3 ∷ []) ++ (9 ∷ [])

abbrev M : List ℕ
M = psv_m 24

abbrev C : List ℕ
C = psv_c 52 1

-- an answer and the output at exit
pub data Row : Type 0 where
  row : Result Replacement Refusal → List ℕ → Row

-- an output of n bytes, each 8
abbrev room : ℕ → List ℕ
room n = replicate n 8

abbrev by : ℕ → List ℕ → List ℕ → ℕ → Row
by k b new n = row (replacement_of k b new n) (output_of k b new (room n))

abbrev gives : List ℕ → SectionPlaces → List ℕ → Row
gives r p rest = row (Ok (record { len = length r; places = p })) (r ++ rest)

abbrev refuses : ℕ → ℕ → Row
refuses m n = row (Err (record { number = m; place = 0 })) (room n)

-- the places of C's PSV0 data, which start at o, at edition 3
abbrev places_c : ℕ → SectionPlaces
places_c o =
    record {
      edition = 3;
      runtime = o + 4;
      stage = 5;
      resources = o + 60;
      resource_count = 0;
      resource_size = 0;
      strings = o + 64;
      string_bytes = 8;
      indices = o + 76;
      index_count = 0;
      elements = o + 76;
      element_count = 0;
      element_size = 0;
      masks = o + 76;
      mask_words = replicate 11 0;
    }

abbrev given : List Row
given =
    by 3 (boxed M) C 136
    ∷ by 3 (followed M) C 155
    ∷ by 0 (followed C) M 154
    ∷ by 3 (followed C) C 154
    ∷ by 4 (boxed M) C 136
    ∷ by 3 (boxed (psv_c 52 8)) M 92
    ∷ by 2 (boxed (psv_c 52 8)) M 92
    ∷ by 2 (boxed M) (psv_c 52 8) 136
    ∷ by 3 (boxed M) (psv_m 26) 136
    ∷ by 3 (boxed M) (psv_m 28) 136
    ∷ by 3 (boxed M) (M ++ word 0) 136
    ∷ by 3 (boxed M) C 135
    ∷ []

abbrev said : List Row
said =
    -- "Replacing PSV0 by a plain part, in a lent output, keeps every byte outside it but the sizes and offsets, and moves what follows; the record
    -- then equals that of a fresh opening": M with the data of C is C; a gap, a part and a byte follow; shorter data; what is there
    gives (boxed C) (places_c 60) []
    ∷ gives (followed C) (places_c 64) (8 ∷ [])
    ∷ gives (followed M) (head_only 68 96 0 0) (room 44)
    ∷ gives (followed C) (places_c 64) []
    -- "Refusals, in this order, change neither: those of opening": 25, 24, which reader 2 doesn't give
    ∷ refuses 25 136
    ∷ refuses 24 92
    ∷ gives (boxed M) (head_only 64 92 0 0) []
    -- "reader 3's for the new part (27 if it isn't plain)": 24, 12; S is no edition's size; a byte after the last section
    ∷ refuses 24 136
    ∷ refuses 12 136
    ∷ refuses 27 136
    ∷ refuses 27 136
    -- "28"
    ∷ refuses 28 135
    ∷ []

pub boxes_hold : given ≡ said
unfolding u16_at u32_at le32 ◌then◌ check when from each under find count_of offset_at offset_bytes name_at size_at data_at end_at earliest part_judged may_repeat may_stand name_judged header_judged parts_judged table_judged mask_words_of sum head_judged fields_judged body_fits element_judged elements_judged entry_judged judged_at opened counted after_counted counted_fits records after_records records_fit rows sections body_of seen has_zero until_zero table fits front more after sequences_of well_formed string_ends string_good string_at next_records stride_at first_record resources_start strings_start indices_start elements_start masks_start head_at whole_at places_at psv_of before_psv container_judged container_places is_plain replaced_at replaced new_judged replacing_judged replacement_of output_of
boxes_hold = refl
