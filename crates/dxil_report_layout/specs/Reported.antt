-- The report on the DXIL part of a container b at edition k. Document 02, Ask 1: "It gets a separate report with its own refusals (40 to 42 ..)
-- and a view of the bitcode .. the two stages are shown side by side as equal, different or unset."
use Rattle.std.specs.Prelude.{Result, Option, Some, None, Bool, true, false, List, ℕ, ◌+◌, eqb}
use Rattle.wire.specs.Number.{u32_at}
use Rattle.wire.specs.Verdict.{under, Verdict}
use Rattle.wire.specs.declared.Refusal.{Refusal}
use Rattle.part_table_layout.specs.Lookup.{find}
use Rattle.psv0_layout.specs.Answers.{field_of, bytes_beside}
use Rattle.psv0_layout.specs.Shown.{stage_number}
use Rattle.container_layout.specs.Container.{dxil, start_found, container_answered}
use Rattle.container_layout.specs.Report.{data_named, reported}
use Rattle.dxil_layout.specs.Program.{header_of, bitcode_start, program_judged, bitcode_of}
use Rattle.dxil_report_layout.specs.declared.ProgramReport.{ProgramReport}
use Rattle.dxil_report_layout.specs.declared.Stages.{Stages}
use Rattle.dxil_report_layout.specs.declared.Stages.TheVariants.{Equal, Different, Unset as NoStage}

-- what opening gives, then 40 to 42 of the DXIL part's data. (26 is for a report on a part that may be absent: 10 comes before it here.)
unfoldable pub program_reported : ℕ → List ℕ → Verdict
program_reported k b = reported program_judged dxil k b

-- the stage that PSV0 shows
unfoldable pub psv_stage : ℕ → List ℕ → Option ℕ
psv_stage k b = field_of (container_answered k b stage_number)

-- "equal, different or unset": the 16-bit stage s and PSV0's are compared as numbers; unset exactly where PSV0's is
abbrev pub equal_if : Bool → Stages
equal_if true = Equal
equal_if false = Different

abbrev pub stages_of : ℕ → Option ℕ → Stages
stages_of s (Some n) = equal_if (eqb s n)
stages_of s None = NoStage

-- what is shown of a container whose data are accepted
abbrev pub report_shown : ℕ → List ℕ → ProgramReport
report_shown k b =
    record {
      header = header_of (data_named b dxil);
      start = start_found b (find b dxil) + bitcode_start (data_named b dxil);
      len = u32_at (data_named b dxil) 20;
      psv0_stage = psv_stage k b;
      stages = stages_of (header_of (data_named b dxil)).stage (psv_stage k b);
    }

unfoldable pub program_report_of : ℕ → List ℕ → Result ProgramReport Refusal
program_report_of k b = under (program_reported k b) (report_shown k b)

-- the bitcode; no bytes beside a refusal
unfoldable pub bitcode_reported : ℕ → List ℕ → List ℕ
bitcode_reported k b = bytes_beside (program_reported k b) (bitcode_of (data_named b dxil))
