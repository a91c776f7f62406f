-- Worked examples of the reports, as rows of one list: what the definitions give of a container, and beside it what the request says.
-- Assumes nothing.
use Rattle.std.specs.Prelude.{Option, Some, None, Result, Ok, Err}
use Prim.Native.Nat.{ℕ}
use mathlib.Core.Path.{◌≡◌, refl}
use mathlib.Core.List.{List, [], ◌∷◌, ◌++◌}
use lib.ListN.{take, replicate}
use Rattle.wire.specs.Number.{u16_at, u32_at}
use Rattle.wire.specs.Stretch.{same_bytes}
use Rattle.wire.specs.Verdict.{◌then◌, check, when, from, each, under, verdict_of}
use Rattle.wire.specs.declared.Refusal.{Refusal}
use Rattle.utf8_layout.specs.Sequence.{table, fits, front, more, after, counted as counted_in, well_formed, code_points}
use Rattle.part_table_layout.specs.Lookup.{find}
use Rattle.part_table_layout.specs.Table.{count_of, offset_at, name_at, size_at, data_at, end_at, earliest, part_judged, may_repeat, may_stand, name_judged, header_judged, parts_judged, table_judged}
use Rattle.psv0_layout.specs.Field.{mask_words_of, sum}
use Rattle.psv0_layout.specs.Judged.{head_judged, fields_judged, body_fits, element_judged, elements_judged, entry_judged, judged_at}
use Rattle.psv0_layout.specs.Layout.{counted, after_counted, counted_fits, records, after_records, records_fit, rows, sections, body_of, seen}
use Rattle.psv0_layout.specs.Reference.{has_zero, until_zero, string_ends, string_at, string_good, index_good}
use Rattle.psv0_layout.specs.Shown.{value, shown_at}
use Rattle.places_layout.specs.Answers.{shown_by, info_by}
use Rattle.places_layout.specs.Handed.{start_by, length_by, handed_by}
use Rattle.places_layout.specs.Read.{source_of, is_there, readable, value_by, body_by, seen_by, answered_from, answered_by}
use Rattle.places_layout.specs.declared.SectionPlaces.{SectionPlaces}
use Rattle.container_layout.specs.Container.{psv_of, before_psv, container_judged, container_answered}
use Rattle.container_layout.specs.Report.{data_named, reported}
use Rattle.signature_layout.specs.Signature.{element_at, name_ends, name_good, name_judged as signature_name_judged, signature_judged, name_of}
use Rattle.signature_layout.specs.declared.NameSpan.{NameSpan}
use Rattle.signature_report_layout.specs.Listed.{listed, list_of}
use Rattle.signature_report_layout.specs.Placed.{needed_by, names_by, difference_by}
use Rattle.signature_report_layout.specs.Reported.{signature_reported, signature_report_of, element_reported, element_report_of, psv_name, differs_at, first_difference, difference_of}
use Rattle.signature_report_layout.specs.declared.SignaturePart.TheVariants.{Input, Output, Patch}
use Rattle.signature_report_layout.specs.declared.SignatureReport.{SignatureReport}
use Rattle.signature_report_layout.proofs.Agreed.{name_told}

abbrev zeros : ℕ → List ℕ
zeros n = replicate n 0

-- a number of two bytes, l and h, in four
abbrev wide : ℕ → ℕ → List ℕ
wide l h = l ∷ h ∷ 0 ∷ 0 ∷ []

abbrev word : ℕ → List ℕ
word n = wide n 0

-- PSV0 data of edition 1, 128 bytes: 2 input elements, 1 output, 1 patch constant or primitive, named `A`, `BC`, `BC` and, empty, ``
abbrev record16 : ℕ → List ℕ
record16 o = word o ++ zeros 12

abbrev psv0 : List ℕ
psv0 =
    word 36 ++ zeros 28 ++ (2 ∷ 1 ∷ 1 ∷ []) ++ zeros 5 ++ word 0 ++ word 8 ++ (0 ∷ 65 ∷ 0 ∷ 66 ∷ 67 ∷ 0 ∷ 0 ∷ 0 ∷ []) ++ word 0
    ++ word 16 ++ record16 1 ++ record16 3 ++ record16 3 ++ record16 0

abbrev element : ℕ → List ℕ
element o = word 0 ++ word o ++ zeros 24

-- ISG1: `A`, `BC` and `A`, 109 bytes. OSG1: `BC`, 43 bytes. PSG1: one name of the bytes C3 and y, 43 bytes
abbrev inputs : List ℕ
inputs = word 3 ++ word 8 ++ element 104 ++ element 106 ++ element 104 ++ (65 ∷ 0 ∷ 66 ∷ 67 ∷ 0 ∷ [])

abbrev outputs : List ℕ
outputs = word 1 ++ word 8 ++ element 40 ++ (66 ∷ 67 ∷ 0 ∷ [])

abbrev patches : ℕ → List ℕ
patches y = word 1 ++ word 8 ++ element 40 ++ (0xC3 ∷ y ∷ 0 ∷ [])

-- a container of 419 bytes; the last part's name begins with x
abbrev box_with : ℕ → ℕ → List ℕ
box_with y x =
    (68 ∷ 88 ∷ 66 ∷ 67 ∷ []) ++ zeros 16 ++ (1 ∷ 0 ∷ 0 ∷ 0 ∷ []) ++ wide 163 1 ++ word 5 ++ word 52 ++ word 64 ++ word 200 ++ wide 61 1 ++ wide 112 1
    ++ (68 ∷ 88 ∷ 73 ∷ 76 ∷ []) ++ word 4 ++ word 7
    ++ (80 ∷ 83 ∷ 86 ∷ 48 ∷ []) ++ word 128 ++ psv0
    ++ (73 ∷ 83 ∷ 71 ∷ 49 ∷ []) ++ word 109 ++ inputs
    ++ (79 ∷ 83 ∷ 71 ∷ 49 ∷ []) ++ word 43 ++ outputs
    ++ (x ∷ 83 ∷ 71 ∷ 49 ∷ []) ++ word 43 ++ patches y

-- its last name well formed
abbrev box : ℕ → List ℕ
box x = box_with 0xA9 x

pub data Row : Type 0 where
  reports : Result SignatureReport Refusal → Row
  differs : Result (Option ℕ) Refusal → Row
  name : Option NameSpan → Row

abbrev given : List Row
given =
    reports (signature_report_of Input 1 (box 80))
    ∷ reports (signature_report_of Output 1 (box 80))
    ∷ reports (signature_report_of Patch 1 (box 80))
    ∷ reports (signature_report_of Patch 1 (box 81))
    ∷ reports (signature_report_of Input 4 (box 80))
    ∷ reports (signature_report_of Patch 1 (box_with 0x29 80))
    ∷ reports (signature_report_of Output 1 (box_with 0x29 80))
    ∷ name (name_told (element_report_of Input 1 (box 80) 1))
    ∷ name (name_told (element_report_of Patch 1 (box 80) 0))
    ∷ differs (difference_of Input 1 (box 80))
    ∷ differs (difference_of Output 1 (box 80))
    ∷ differs (difference_of Patch 1 (box 80))
    ∷ differs (difference_of Output 0 (box 80))
    ∷ differs (difference_of Patch 1 (box 81))
    ∷ []

abbrev refused : {A : Type 0} → ℕ → Result A Refusal
refused n = Err (record { number = n; place = 0 })

abbrev said : List Row
said =
    -- the parts' counts and data; a part that is absent; an opening's refusal
    reports (Ok (record { count = 3; start = 208; len = 109 }))
    ∷ reports (Ok (record { count = 1; start = 325; len = 43 }))
    ∷ reports (Ok (record { count = 1; start = 376; len = 43 }))
    ∷ reports (refused 26)
    ∷ reports (refused 25)
    -- a name that isn't well formed, and another part of that container
    ∷ reports (refused 52)
    ∷ reports (Ok (record { count = 1; start = 325; len = 43 }))
    -- names as stretches of the container, with their code points
    ∷ name (Some (record { start = 314; len = 2; points = 2 }))
    ∷ name (Some (record { start = 416; len = 2; points = 1 }))
    -- `A` and `BC` as in PSV0, the third past its list; `BC` as in PSV0; a name where PSV0 has an empty one; at edition 0 all are missing
    ∷ differs (Ok (Some 2))
    ∷ differs (Ok None)
    ∷ differs (Ok (Some 0))
    ∷ differs (Ok (Some 0))
    ∷ differs (refused 26)
    ∷ []

pub boxes_hold : given ≡ said
unfolding table fits front more after counted_in well_formed code_points u16_at u32_at same_bytes ◌then◌ check when from each under find count_of offset_at name_at size_at data_at end_at earliest part_judged may_repeat may_stand name_judged header_judged parts_judged table_judged mask_words_of sum head_judged fields_judged body_fits element_judged elements_judged entry_judged judged_at counted after_counted counted_fits records after_records records_fit rows sections body_of seen has_zero until_zero string_ends string_at string_good index_good value shown_at psv_of before_psv container_judged container_answered data_named reported element_at name_ends name_good signature_name_judged signature_judged name_of signature_reported signature_report_of element_reported element_report_of psv_name differs_at first_difference difference_of
boxes_hold = refl

-- ---- the second report by places: those of the container, but for the string table's length t and the number of elements n
abbrev places_with : ℕ → ℕ → SectionPlaces
places_with t n =
    record {
      edition = 1;
      runtime = 76;
      stage = 0;
      resources = 116;
      resource_count = 0;
      resource_size = 0;
      strings = 120;
      string_bytes = t;
      indices = 132;
      index_count = 0;
      elements = 136;
      element_count = n;
      element_size = 16;
      masks = 200;
      mask_words = zeros 11;
    }

abbrev by_places : List (Result (Option ℕ) Refusal)
by_places =
    difference_by (places_with 8 4) (box 80) Input inputs
    ∷ difference_by (places_with 8 4) (box 80) Output outputs
    ∷ difference_by (places_with 8 4) (box 80) Patch (patches 0xA9)
    ∷ difference_by (places_with 300 4) (box 80) Input []
    ∷ difference_by (places_with 299 4) (box 80) Output outputs
    ∷ difference_by (places_with 300 4) (box 80) Output outputs
    ∷ difference_by (places_with 8 17) (box 80) Input inputs
    ∷ difference_by (places_with 8 18) (box 80) Input inputs
    ∷ difference_by (places_with 8 4) (take 111 (box 80)) Output outputs
    ∷ []

abbrev by_places_said : List (Result (Option ℕ) Refusal)
by_places_said =
    -- as the container's own
    Ok (Some 2)
    ∷ Ok None
    ∷ Ok (Some 0)
    -- the data's refusals first
    ∷ refused 43
    -- a string table up to the end, and one byte past it; records up to the end, and so further apart than they are, and past it
    ∷ Ok None
    ∷ refused 29
    ∷ Ok (Some 1)
    ∷ refused 29
    -- of bytes that end inside the runtime record
    ∷ refused 29
    ∷ []

pub by_places_hold : by_places ≡ by_places_said
unfolding table fits front more after counted_in well_formed u16_at u32_at same_bytes ◌then◌ check each under verdict_of sum has_zero until_zero string_ends string_at string_good value element_at name_ends name_good signature_name_judged signature_judged differs_at first_difference source_of is_there readable value_by body_by seen_by answered_from answered_by shown_by info_by start_by length_by handed_by listed list_of needed_by names_by difference_by
by_places_hold = refl
