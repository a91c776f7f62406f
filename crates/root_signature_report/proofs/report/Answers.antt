use native.Mathlib.Omega.{arith}
use Rattle.container_layout.proofs.Parts.{part_fits, part_short}
use Rattle.wire.proofs.Verdicts.{passed_on}
use Rattle.root_signature_report_layout.specs.Reported.{root_report_of}
use Rattle.root_signature_report_layout.proofs.Steps.{part_refused, header_is, data_accepted}
use Rattle.root_signature_report.proofs.report.Goals as goal

pub returns-in_err-p : goal.returns-in_err-p
returns-in_err-p c = part_refused _ _ c.part.ensures c.from_residual.ensures c.in_err-p.was

pub overflow_add-start : goal.overflow_add-start
overflow_add-start c = omega (arith, part_short _ _ _ _ c.part.ensures c.in_ok-p.was)

pub overflow_add-start-2 : goal.overflow_add-start-2
overflow_add-start-2 c = omega (arith, part_short _ _ _ _ c.part.ensures c.in_ok-p.was)

pub slice_bounds-read-end : goal.slice_bounds-read-end
slice_bounds-read-end c = omega (arith, part_fits _ _ _ _ c.part.ensures c.in_ok-p.was)

pub returns-in_err-header : goal.returns-in_err-header
unfolding root_report_of
returns-in_err-header c = passed_on _ _ (header_is _ _ c.part.ensures c.in_ok-p.was c.read.ensures) _ c.from_residual-in_err-header.ensures c.in_err-header.was

pub returns : goal.returns
returns c = data_accepted _ _ c.part.ensures c.in_ok-p.was c.read.ensures c.in_ok-header.was
