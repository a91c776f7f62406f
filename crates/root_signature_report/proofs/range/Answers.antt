use native.Mathlib.Omega.{arith}
use Rattle.container_layout.proofs.Parts.{part_fits, part_short}
use Rattle.root_signature_report_layout.proofs.Steps.{part_no_range, range_is}
use Rattle.root_signature_report.proofs.range.Goals as goal

pub returns-in_err-p : goal.returns-in_err-p
returns-in_err-p c = part_no_range _ _ c.part.ensures _ _ c.from_residual.ensures c.in_err-p.was

pub overflow_add-start : goal.overflow_add-start
overflow_add-start c = omega (arith, part_short _ _ _ _ c.part.ensures c.in_ok-p.was)

pub overflow_add-start-2 : goal.overflow_add-start-2
overflow_add-start-2 c = omega (arith, part_short _ _ _ _ c.part.ensures c.in_ok-p.was)

pub slice_bounds-range-end : goal.slice_bounds-range-end
slice_bounds-range-end c = omega (arith, part_fits _ _ _ _ c.part.ensures c.in_ok-p.was)

pub returns : goal.returns
returns c = range_is _ _ c.part.ensures c.in_ok-p.was _ _ c.range.ensures
