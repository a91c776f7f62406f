use native.Mathlib.Omega.{arith}
use Rattle.wire.proofs.Verdicts.{passed_on}
use Rattle.container_layout.proofs.Parts.{part_fits, part_short}
use Rattle.signature_report_layout.specs.Reported.{element_report_of}
use Rattle.signature_report_layout.proofs.Steps.{part_no_element, element_read, element_room, element_moved}
use Rattle.signature_report.proofs.element.Goals as goal

pub returns-in_err-p : goal.returns-in_err-p
returns-in_err-p c = part_no_element _ _ _ c.part_of.ensures _ c.from_residual.ensures c.in_err-p.was

pub overflow_add-start : goal.overflow_add-start
overflow_add-start c = omega (arith, part_short _ _ _ _ c.part_of.ensures c.in_ok-p.was)

pub overflow_add-start-2 : goal.overflow_add-start-2
overflow_add-start-2 c = omega (arith, part_short _ _ _ _ c.part_of.ensures c.in_ok-p.was)

pub slice_bounds-element-end : goal.slice_bounds-element-end
slice_bounds-element-end c = omega (arith, part_fits _ _ _ _ c.part_of.ensures c.in_ok-p.was)

pub moved_by-requires : goal.moved_by-requires
moved_by-requires c =
    element_room c.args.part _ _ c.part_of.ensures c.in_ok-p.was _ c.element.ensures c.in_ok-a.was

pub returns-in_err-a : goal.returns-in_err-a
unfolding element_report_of
returns-in_err-a c =
    passed_on _ _ (element_read _ _ _ c.part_of.ensures c.in_ok-p.was _ c.element.ensures) _ c.from_residual-in_err-a.ensures c.in_err-a.was

pub returns : goal.returns
returns c =
    element_moved _ _ _ c.part_of.ensures c.in_ok-p.was _ c.element.ensures c.in_ok-a.was c.moved_by.ensures
