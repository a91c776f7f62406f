use native.Mathlib.Omega.{arith}
use Rattle.container_layout.proofs.Parts.{part_fits, part_short}
use Rattle.signature_report_layout.proofs.Steps.{part_refused, data_refused, data_accepted}
use Rattle.signature_report.proofs.report.Goals as goal

pub returns-in_err-p : goal.returns-in_err-p
returns-in_err-p c = part_refused _ _ _ c.part_of.ensures c.from_residual.ensures c.in_err-p.was

pub overflow_add-start : goal.overflow_add-start
overflow_add-start c = omega (arith, part_short _ _ _ _ c.part_of.ensures c.in_ok-p.was)

pub overflow_add-start-2 : goal.overflow_add-start-2
overflow_add-start-2 c = omega (arith, part_short _ _ _ _ c.part_of.ensures c.in_ok-p.was)

pub slice_bounds-read-end : goal.slice_bounds-read-end
slice_bounds-read-end c = omega (arith, part_fits _ _ _ _ c.part_of.ensures c.in_ok-p.was)

pub returns-in_err-count : goal.returns-in_err-count
returns-in_err-count c =
    data_refused _ _ _ c.part_of.ensures c.in_ok-p.was c.read.ensures c.from_residual-in_err-count.ensures c.in_err-count.was

pub returns : goal.returns
returns c = data_accepted _ _ _ c.part_of.ensures c.in_ok-p.was c.read.ensures c.in_ok-count.was
