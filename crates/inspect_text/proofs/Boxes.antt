-- Texts worked out, and what the program still prints of the files that an opening without an edition now refuses.
-- Assumes nothing.
use Prim.Native.Nat.{ℕ, ◌≤◌}
use mathlib.Core.Path.{◌≡◌, refl}
use mathlib.Core.List.{List, [], ◌∷◌, ◌++◌}
use native.Mathlib.Omega.{arith}
use lib.ListN.{length, take}
use borrow.Author.Tests.{le-leb}
use Rattle.constants.specs.Name.{is_known}
use Rattle.container_layout.specs.Container.{psv_of, before_psv, container_judged}
use Rattle.container_layout.proofs.Boxes.{psv_m, psv_c, boxed}
use Rattle.container_layout.proofs.DefaultEdition.{older_accepts, of_edition_3}
use Rattle.inspect_text.specs.Inspected.{part_lines, printed_if, printed_at, inspected}
use Rattle.lines.specs.Line.{numbers, accepted_line, refused_line, printable, name_text, mark, part_line}
use Rattle.lines.specs.Number.{decimal}
use Rattle.part_table_layout.specs.Lookup.{find}
use Rattle.part_table_layout.specs.Table.{count_of, offset_at, name_at, size_at, data_at, end_at, earliest, part_judged, may_repeat, may_stand, name_judged, header_judged, parts_judged, table_judged}
use Rattle.utf8_layout.specs.Sequence.{table, fits, front, more, after, counted as sequences_of, well_formed}
use Rattle.psv0_layout.specs.Field.{mask_words_of, sum}
use Rattle.psv0_layout.specs.Judged.{head_judged, fields_judged, body_fits, element_judged, elements_judged, entry_judged, judged_at}
use Rattle.psv0_layout.specs.Layout.{default_edition, counted, after_counted, counted_fits, records, after_records, records_fit, rows, sections, body_of, seen}
use Rattle.psv0_layout.specs.Reference.{has_zero, until_zero, string_ends, string_good, string_at, index_good, array_at}
use Rattle.wire.specs.Number.{u16_at, u32_at}
use Rattle.wire.specs.Verdict.{◌then◌, check, when, from, each, Refused}

-- "For M the program prints three lines"; of 31 bytes "`refused 1 0`"; of C with name offset 8, which edition 3 refuses, what it prints of C
abbrev given : List (List ℕ)
given = inspected (boxed (psv_m 24)) ∷ inspected (take 31 (boxed (psv_m 24))) ∷ inspected (boxed (psv_c 52 1)) ∷ inspected (boxed (psv_c 52 8)) ∷ []

abbrev text_m : List ℕ
text_m =
    -- `accepted 0 2`
    (97 ∷ 99 ∷ 99 ∷ 101 ∷ 112 ∷ 116 ∷ 101 ∷ 100 ∷ 32 ∷ 48 ∷ 32 ∷ 50 ∷ 10 ∷ [])
    -- `DXIL 40 4 known`
    ++ (68 ∷ 88 ∷ 73 ∷ 76 ∷ 32 ∷ 52 ∷ 48 ∷ 32 ∷ 52 ∷ 32 ∷ 107 ∷ 110 ∷ 111 ∷ 119 ∷ 110 ∷ 10 ∷ [])
    -- `PSV0 52 32 known`
    ++ (80 ∷ 83 ∷ 86 ∷ 48 ∷ 32 ∷ 53 ∷ 50 ∷ 32 ∷ 51 ∷ 50 ∷ 32 ∷ 107 ∷ 110 ∷ 111 ∷ 119 ∷ 110 ∷ 10 ∷ [])

abbrev text_c : List ℕ
text_c =
    -- `accepted 3 2`
    (97 ∷ 99 ∷ 99 ∷ 101 ∷ 112 ∷ 116 ∷ 101 ∷ 100 ∷ 32 ∷ 51 ∷ 32 ∷ 50 ∷ 10 ∷ [])
    -- `DXIL 40 4 known`
    ++ (68 ∷ 88 ∷ 73 ∷ 76 ∷ 32 ∷ 52 ∷ 48 ∷ 32 ∷ 52 ∷ 32 ∷ 107 ∷ 110 ∷ 111 ∷ 119 ∷ 110 ∷ 10 ∷ [])
    -- `PSV0 52 76 known`
    ++ (80 ∷ 83 ∷ 86 ∷ 48 ∷ 32 ∷ 53 ∷ 50 ∷ 32 ∷ 55 ∷ 54 ∷ 32 ∷ 107 ∷ 110 ∷ 111 ∷ 119 ∷ 110 ∷ 10 ∷ [])

abbrev said : List (List ℕ)
said =
    text_m
    -- `refused 1 0`
    ∷ (114 ∷ 101 ∷ 102 ∷ 117 ∷ 115 ∷ 101 ∷ 100 ∷ 32 ∷ 49 ∷ 32 ∷ 48 ∷ 10 ∷ [])
    ∷ text_c
    ∷ text_c
    ∷ []

pub boxes_hold : given ≡ said
unfolding u16_at u32_at ◌then◌ check when from each find count_of offset_at name_at size_at data_at end_at earliest part_judged may_repeat may_stand name_judged header_judged parts_judged table_judged mask_words_of sum head_judged fields_judged body_fits element_judged elements_judged entry_judged judged_at counted after_counted counted_fits records after_records records_fit rows sections body_of seen has_zero until_zero table fits front more after sequences_of well_formed string_ends string_good string_at index_good array_at psv_of before_psv container_judged is_known decimal numbers accepted_line refused_line printable name_text mark part_line part_lines printed_if printed_at inspected
boxes_hold = refl

-- a file that an opening without an edition refuses with 24 is printed as one of edition 3 that is accepted
pub still_accepted : (b : List ℕ) {p : ℕ} → container_judged default_edition b ≡ Refused 24 p → length b ≤ 65536
    → inspected b ≡ accepted_line 3 (count_of b) ++ part_lines b (count_of b)
unfolding inspected printed_at printed_if
still_accepted b r l = rw (le-leb _ _ l, older_accepts b r 1 (omega arith), of_edition_3 b r)
