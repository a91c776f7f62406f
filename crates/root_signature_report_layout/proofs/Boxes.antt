-- Worked examples of the report, as rows of one list: what the definitions give of a container, and beside it what the request says.
-- Assumes nothing.
use Rattle.std.specs.Prelude.{Result, Ok, Err, Some}
use Prim.Native.Nat.{ℕ}
use mathlib.Core.Path.{◌≡◌, refl}
use mathlib.Core.List.{List, [], ◌∷◌, ◌++◌}
use lib.ListN.{replicate}
use Rattle.wire.specs.Number.{u16_at, u32_at}
use Rattle.wire.specs.Verdict.{◌then◌, check, when, from, each, under}
use Rattle.wire.specs.declared.Refusal.{Refusal}
use Rattle.part_table_layout.specs.Lookup.{find}
use Rattle.part_table_layout.specs.Table.{count_of, offset_at, name_at, size_at, data_at, end_at, earliest, part_judged, may_repeat, may_stand, name_judged, header_judged, parts_judged, table_judged}
use Rattle.psv0_layout.specs.Judged.{head_judged, fields_judged, body_fits, elements_judged, entry_judged, judged_at}
use Rattle.psv0_layout.specs.Layout.{counted, after_counted, counted_fits, records, after_records, records_fit, sections, body_of, seen}
use Rattle.container_layout.specs.Container.{psv_of, before_psv, container_judged}
use Rattle.container_layout.specs.Report.{data_named, reported}
use Rattle.root_signature_layout.specs.Root.{in11, range_size, parameter_at, type_at, visibility_at, data_at as data_of, data_size, ranges_of, range_at, header_judged as root_header_judged, own_judged, type_judged, data_judged, ranges_judged, parameter_judged, item_judged, root_judged, parameter_of, item_at, range_of, header_of, item_there, range_there}
use Rattle.root_signature_layout.specs.declared.DescriptorRange.{DescriptorRange}
use Rattle.root_signature_layout.specs.declared.Item.{Item}
use Rattle.root_signature_layout.specs.declared.Item.TheVariants.{Table}
use Rattle.root_signature_report_layout.specs.Reported.{root_reported, root_report_of, item_reported, item_report_of, range_report_of}
use Rattle.root_signature_report_layout.specs.declared.RootReport.{RootReport}

abbrev zeros : ℕ → List ℕ
zeros n = replicate n 0

abbrev word : ℕ → List ℕ
word n = n ∷ 0 ∷ 0 ∷ 0 ∷ []

-- one table with one range, in 1.1: 68 bytes
abbrev table : List ℕ
table =
    word 2 ++ word 1 ++ word 24 ++ word 0 ++ word 0 ++ word 1 ++ (word 0 ++ word 5 ++ word 36) ++ (word 1 ++ word 44)
    ++ (word 1 ++ word 2 ++ word 3 ++ word 4 ++ word 0 ++ (255 ∷ 255 ∷ 255 ∷ 255 ∷ []))

-- a container of 172 bytes: DXIL, whose name begins with x, PSV0 of edition 0, and the table under a name that begins with y
abbrev box : ℕ → ℕ → List ℕ
box x y =
    (68 ∷ 88 ∷ 66 ∷ 67 ∷ []) ++ zeros 16 ++ (1 ∷ 0 ∷ 0 ∷ 0 ∷ []) ++ word 172 ++ word 3 ++ word 44 ++ word 56 ++ word 96
    ++ (x ∷ 88 ∷ 73 ∷ 76 ∷ []) ++ word 4 ++ word 7
    ++ (80 ∷ 83 ∷ 86 ∷ 48 ∷ []) ++ word 32 ++ word 24 ++ zeros 28
    ++ (y ∷ 84 ∷ 83 ∷ 48 ∷ []) ++ word 68 ++ table

pub data Row : Type 0 where
  reports : Result RootReport Refusal → Row
  items : Result Item Refusal → Row
  ranges : Result DescriptorRange Refusal → Row

abbrev given : List Row
given =
    reports (root_report_of 3 (box 68 82))
    ∷ reports (root_report_of 3 (box 68 83))
    ∷ reports (root_report_of 4 (box 68 82))
    ∷ reports (root_report_of 3 (box 69 82))
    ∷ items (item_report_of 0 (box 68 82) 0)
    ∷ items (item_report_of 0 (box 68 82) 1)
    ∷ ranges (range_report_of 0 (box 68 82) 0 0)
    ∷ ranges (range_report_of 0 (box 68 82) 0 1)
    ∷ []

abbrev refused : {A : Type 0} → ℕ → Result A Refusal
refused n = Err (record { number = n; place = 0 })

abbrev said : List Row
said =
    -- the header and the part's data; a part that is absent; the opening's refusals, of edition 4 and without a DXIL part
    reports (Ok (record { header = record { version = 2; parameters = 1; samplers = 0; flags = 1 }; start = 104; len = 68 }))
    ∷ reports (refused 26)
    ∷ reports (refused 25)
    ∷ reports (refused 10)
    ∷ items (Ok (Table 5 1 44))
    ∷ items (refused 26)
    -- flags 0 and an offset that appends, as compilers write them
    ∷ ranges (Ok (record { range_type = 1; descriptors = 2; base_register = 3; space = 4; flags = Some 0; offset = 4294967295 }))
    ∷ ranges (refused 26)
    ∷ []

pub boxes_hold : given ≡ said
unfolding u16_at u32_at ◌then◌ check when from each under find count_of offset_at name_at size_at data_at end_at earliest part_judged may_repeat may_stand name_judged header_judged parts_judged table_judged head_judged fields_judged body_fits elements_judged entry_judged judged_at counted after_counted counted_fits records after_records records_fit sections body_of seen psv_of before_psv container_judged data_named reported in11 range_size parameter_at type_at visibility_at data_of data_size ranges_of range_at root_header_judged own_judged type_judged data_judged ranges_judged parameter_judged item_judged root_judged parameter_of item_at range_of header_of item_there range_there root_reported root_report_of item_reported item_report_of range_report_of
boxes_hold = refl
