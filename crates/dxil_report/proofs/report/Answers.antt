use native.Mathlib.Omega.{arith}
use Rattle.container_layout.proofs.Parts.{part_fits, part_short}
use Rattle.dxil_report_layout.proofs.Steps.{part_refused, program_refused, bitcode_short, info_refused, program_accepted}
use Rattle.dxil_report.proofs.report.Goals as goal

pub returns-in_err-part : goal.returns-in_err-part
returns-in_err-part c = part_refused _ _ c.part.ensures c.from_residual.ensures c.in_err-part.was

pub overflow_add-start : goal.overflow_add-start
overflow_add-start c = omega (arith, part_short _ _ _ _ c.part.ensures c.in_ok-part.was)

pub overflow_add-start-2 : goal.overflow_add-start-2
overflow_add-start-2 c = omega (arith, part_short _ _ _ _ c.part.ensures c.in_ok-part.was)

pub slice_bounds-read-end : goal.slice_bounds-read-end
slice_bounds-read-end c = omega (arith, part_fits _ _ _ _ c.part.ensures c.in_ok-part.was)

pub returns-in_err-p : goal.returns-in_err-p
returns-in_err-p c =
    program_refused _ _ c.part.ensures c.in_ok-part.was c.read.ensures c.from_residual-in_err-p.ensures c.in_err-p.was

pub returns-in_err-psv0_stage : goal.returns-in_err-psv0_stage
returns-in_err-psv0_stage c =
    info_refused _ _ c.part.ensures c.in_ok-part.was c.read.ensures c.in_ok-p.was c.runtime_info.ensures c.in_err-psv0_stage.was

pub overflow_add-result : goal.overflow_add-result
overflow_add-result c =
    omega (arith, bitcode_short _ _ c.part.ensures c.in_ok-part.was c.read.ensures c.in_ok-p.was)

pub returns : goal.returns
returns c =
    program_accepted _ _ c.part.ensures c.in_ok-part.was c.read.ensures c.in_ok-p.was c.runtime_info.ensures c.in_ok-psv0_stage.was
    c.compared.ensures
