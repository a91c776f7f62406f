-- The boxes of document 01 that are marked *, and nine of document 02, as rows of one list: what the definitions give, and beside it
-- what the papers say.
-- Assumes nothing.
use Prim.Native.Nat.{ℕ, ◌+◌, ◌-◌}
use mathlib.Core.Path.{◌≡◌, refl}
use mathlib.Core.List.{List, [], ◌∷◌, ◌++◌}
use lib.ListN.{length, get_or, replicate}
use Rattle.constants.specs.Edition.{file_edition_of}
use Rattle.wire.specs.Number.{u16_at, u32_at}
use Rattle.wire.specs.Verdict.{◌then◌, check, when, from, each, Verdict, Accepted, Refused}
use Rattle.part_table_layout.specs.Lookup.{find}
use Rattle.part_table_layout.specs.Table.{count_of, offset_at, name_at, size_at, data_at, end_at, earliest, part_judged, may_repeat, may_stand, name_judged, header_judged, parts_judged, table_judged}
use Rattle.utf8_layout.specs.Sequence.{table, fits, front, more, after, counted as sequences_of, well_formed, code_points}
use Rattle.psv0_layout.specs.Field.{words, mask_words_of, sum}
use Rattle.psv0_layout.specs.Judged.{head_judged, fields_judged, body_fits, element_judged, elements_judged, entry_judged, judged_at}
use Rattle.psv0_layout.specs.Layout.{default_edition, counted, after_counted, counted_fits, records, after_records, records_fit, rows, sections, body_of, seen}
use Rattle.psv0_layout.specs.Reference.{has_zero, until_zero, string_ends, string_good, string_at, index_good, array_at}
use Rattle.psv0_layout.specs.Shown.{Value, unset, number as points, view, entry_name, entry_points, value, shown_at}
use Rattle.container_layout.specs.Container.{psv_of, before_psv, container_judged, container_answered}

abbrev zeros : ℕ → List ℕ
zeros n = replicate n 0

-- a number below 256, in four bytes
abbrev word : ℕ → List ℕ
word n = n ∷ 0 ∷ 0 ∷ 0 ∷ []

-- M's PSV0 data: S, a record of zeros, R = 0
abbrev pub psv_m : ℕ → List ℕ
psv_m S = word S ++ zeros (S + 4)

-- C's: "stage 5, R = 0, T = 8 (zero, `main`, three zeros), N = 0", with a name offset; t are the eight bytes of the string table
abbrev pub psv_named : List ℕ → ℕ → ℕ → List ℕ
psv_named t S o = word S ++ zeros 24 ++ (5 ∷ []) ++ zeros 23 ++ word o ++ zeros (S - 52) ++ word 0 ++ word 8 ++ t ++ word 0

abbrev pub psv_c : ℕ → ℕ → List ℕ
psv_c S o = psv_named (0 ∷ 109 ∷ 97 ∷ 105 ∷ 110 ∷ 0 ∷ 0 ∷ 0 ∷ []) S o

-- C with other strings: zero, `aé`, zero, a byte that is no sequence, `b`, zero
abbrev psv_u : ℕ → List ℕ
psv_u o = psv_named (0 ∷ 0x61 ∷ 0xC3 ∷ 0xA9 ∷ 0 ∷ 0x80 ∷ 0x62 ∷ 0 ∷ []) 52 o

-- "offsets 40 and 52; DXIL with 4 data bytes", and the PSV0 data d
abbrev pub boxed : List ℕ → List ℕ
boxed d =
    (68 ∷ 88 ∷ 66 ∷ 67 ∷ []) ++ zeros 16 ++ (1 ∷ 0 ∷ 0 ∷ 0 ∷ []) ++ word (60 + length d) ++ word 2 ++ word 40 ++ word 52
    ++ (68 ∷ 88 ∷ 73 ∷ 76 ∷ []) ++ word 4 ++ word 7 ++ (80 ∷ 83 ∷ 86 ∷ 48 ∷ []) ++ word (length d) ++ d

pub data Row : Type 0 where
  -- a container's length, its PSV0 data's length, the verdict, the file's edition, the entry name and its code points
  opens : ℕ → ℕ → Verdict → ℕ → Value → Value → Row
  number : ℕ → Row

-- what reader k says of the container with the PSV0 data d
abbrev by : ℕ → List ℕ → Row
by k d =
    opens (length (boxed d)) (length (psv_of (boxed d))) (container_judged k (boxed d)) (file_edition_of (u32_at (psv_of (boxed d)) 0))
    (container_answered k (boxed d) entry_name) (container_answered k (boxed d) entry_points)

abbrev main : Value
main = view (109 ∷ 97 ∷ 105 ∷ 110 ∷ [])

abbrev given : List Row
given =
    by 3 (psv_m 24)
    ∷ by 3 (psv_c 52 1)
    ∷ by 1 (psv_c 52 1)
    ∷ by 3 (psv_c 52 5)
    ∷ by 3 (psv_c 52 8)
    ∷ by 2 (psv_c 52 8)
    ∷ by 3 (psv_c 56 1)
    ∷ by 3 (psv_m 28)
    ∷ by 3 (psv_m 26)
    ∷ by 3 (psv_m 20)
    ∷ by default_edition (psv_c 52 1)
    ∷ by default_edition (psv_c 52 8)
    ∷ by 1 (psv_c 52 8)
    ∷ by 3 (psv_u 1)
    ∷ by 3 (psv_u 2)
    ∷ by 3 (psv_u 3)
    ∷ by 3 (psv_u 5)
    ∷ by 3 (psv_u 6)
    ∷ by 2 (psv_u 5)
    ∷ number (words 8)
    ∷ number (words 9)
    ∷ number (get_or (mask_words_of (zeros 31 ++ (3 ∷ 9 ∷ []))) 5 0)
    ∷ []

abbrev said : List Row
said =
    -- "M .. 92 bytes in all: accepted, edition 0"
    opens 92 32 Accepted 0 unset unset
    -- "C .. PSV0 of 76 bytes .. 136 bytes in all: `main`. Reader 1: unset"
    ∷ opens 136 76 Accepted 3 main (points 4)
    ∷ opens 136 76 Accepted 3 unset unset
    -- "C with name offset 5: an empty name, set. With 8: 24. Reader 2 on that: accepted"
    ∷ opens 136 76 Accepted 3 (view []) (points 0)
    ∷ opens 136 76 (Refused 24 0) 3 unset unset
    ∷ opens 136 76 Accepted 3 unset unset
    -- "C with S = 56 and four bytes more (140 in all): `main`"
    ∷ opens 140 80 Accepted 3 main (points 4)
    -- "M with S = 28, four bytes more: edition 0. S = 26: 12. S = 20: 12"
    ∷ opens 96 36 Accepted 0 unset unset
    ∷ opens 94 34 (Refused 12 0) 0 unset unset
    ∷ opens 88 28 (Refused 12 0) 0 unset unset
    -- "An opening that names no edition now reads as edition 3 .. entry names", and would "start to give 24 for files they used to pass"
    -- at edition 1 (document 02, Ask 5)
    ∷ opens 136 76 Accepted 3 main (points 4)
    ∷ opens 136 76 (Refused 24 0) 3 unset unset
    ∷ opens 136 76 Accepted 3 unset unset
    -- "good only when the bytes before its zero are well formed .. A lookup also tells how many code points there are" (document 02, Ask 7): `aé`,
    -- `é`, the middle of a sequence, a string that begins with one, the rest of that string, which no other reference spoils; reader 2
    ∷ opens 136 76 Accepted 3 (view (0x61 ∷ 0xC3 ∷ 0xA9 ∷ [])) (points 2)
    ∷ opens 136 76 Accepted 3 (view (0xC3 ∷ 0xA9 ∷ [])) (points 1)
    ∷ opens 136 76 (Refused 24 0) 3 unset unset
    ∷ opens 136 76 (Refused 24 0) 3 unset unset
    ∷ opens 136 76 Accepted 3 (view (0x62 ∷ [])) (points 1)
    ∷ opens 136 76 Accepted 3 unset unset
    -- "w(8) = 1, w(9) = 2; v0 = 9, u = 3 gives 24 words"
    ∷ number 1
    ∷ number 2
    ∷ number 24
    ∷ []

pub boxes_hold : given ≡ said
unfolding u16_at u32_at ◌then◌ check when from each find count_of offset_at name_at size_at data_at end_at earliest part_judged may_repeat may_stand name_judged header_judged parts_judged table_judged mask_words_of sum head_judged fields_judged body_fits element_judged elements_judged entry_judged judged_at counted after_counted counted_fits records after_records records_fit rows sections body_of seen has_zero until_zero table fits front more after sequences_of well_formed code_points string_ends string_good string_at index_good array_at value shown_at psv_of before_psv container_judged container_answered
boxes_hold = refl
