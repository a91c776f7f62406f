-- The report on the root signature of a container b at edition k. Document 02, Ask 6: "Refuse an absent part (26), a short header (46), the version
-- (47), then the first bad item", and first of all what opening gives. So a container with the part RTS0 alone gives 10.
use Rattle.std.specs.Prelude.{Result, List, [], ◌∷◌, ℕ, length}
use Rattle.wire.specs.Number.{u32_at}
use Rattle.wire.specs.Verdict.{◌then◌, under, Verdict}
use Rattle.wire.specs.declared.Refusal.{Refusal}
use Rattle.part_table_layout.specs.Lookup.{find}
use Rattle.container_layout.specs.Container.{start_found}
use Rattle.container_layout.specs.Report.{data_named, reported}
use Rattle.root_signature_layout.specs.Root.{root_judged, header_of, item_at, range_shown, item_there, range_there}
use Rattle.root_signature_layout.specs.declared.DescriptorRange.{DescriptorRange}
use Rattle.root_signature_layout.specs.declared.Item.{Item}
use Rattle.root_signature_report_layout.specs.declared.RootReport.{RootReport}

-- the name `RTS0`, as a number
abbrev pub rts0 : ℕ
rts0 = u32_at (82 ∷ 84 ∷ 83 ∷ 48 ∷ []) 0

-- the part's data, and where they start in the container
abbrev pub root_data : List ℕ → List ℕ
root_data b = data_named b rts0

abbrev pub root_start : List ℕ → ℕ
root_start b = start_found b (find b rts0)

-- what opening gives, then "an absent part (26)", then 46 to 51 of the part's data
unfoldable pub root_reported : ℕ → List ℕ → Verdict
root_reported k b = reported root_judged rts0 k b

-- what is shown of a container whose data are accepted
abbrev pub report_shown : List ℕ → RootReport
report_shown b = record { header = header_of (root_data b); start = root_start b; len = length (root_data b) }

unfoldable pub root_report_of : ℕ → List ℕ → Result RootReport Refusal
root_report_of k b = under (root_reported k b) (report_shown b)

-- item i: 26 where there is none; range j of it: 26 where it is no table or has no such range
unfoldable pub item_reported : ℕ → List ℕ → ℕ → Verdict
item_reported k b i = root_reported k b then item_there (root_data b) i

unfoldable pub item_report_of : ℕ → List ℕ → ℕ → Result Item Refusal
item_report_of k b i = under (item_reported k b i) (item_at (root_data b) i)

unfoldable pub range_report_of : ℕ → List ℕ → ℕ → ℕ → Result DescriptorRange Refusal
range_report_of k b i j = under (item_reported k b i then range_there (root_data b) i j) (range_shown (root_data b) i j)
