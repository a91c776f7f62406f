use mathlib.Core.Path.{sym, ◌∙◌}
use native.Mathlib.Omega.{arith}
use Rattle.wire.proofs.Verdicts.{accepts}
use Rattle.part_table_layout.proofs.Lookups.{ok_err}
use Rattle.container_layout.specs.Container.{container_judged}
use Rattle.container.specs.Opened.{container_places_of}
use Rattle.container.proofs.Openings.{places_are}
use Rattle.signature_report_layout.proofs.Placed.{part_no_difference, part_inside, part_opens, part_difference}
use Rattle.signature_report.proofs.first_difference.Goals as goal

pub returns-in_err-q : goal.returns-in_err-q
returns-in_err-q c = part_no_difference c.args.part _ _ c.part_of.ensures c.from_residual.ensures c.in_err-q.was

pub overflow_add-start : goal.overflow_add-start
overflow_add-start c = omega (arith, part_inside c.args.part _ _ c.part_of.ensures c.in_ok-q.was)

pub overflow_add-start-2 : goal.overflow_add-start-2
overflow_add-start-2 c = omega (arith, part_inside c.args.part _ _ c.part_of.ensures c.in_ok-q.was)

pub slice_bounds-difference_by-end : goal.slice_bounds-difference_by-end
slice_bounds-difference_by-end c = part_inside c.args.part _ _ c.part_of.ensures c.in_ok-q.was

-- the part was found, so the container opens
pub returns-in_err-o : goal.returns-in_err-o
unfolding container_places_of
returns-in_err-o c =
    let o = part_opens c.args.part _ _ c.part_of.ensures c.in_ok-q.was in
    ok_err (sym c.in_err-o.was ∙ c.open_places.ensures ∙ sym (accepts (container_judged c.args.edition c.args.b.now) _ (sym o)))

pub returns : goal.returns
returns c =
    part_difference c.args.part _ _ c.part_of.ensures c.in_ok-q.was (places_are _ _ c.open_places.ensures c.in_ok-o.was).1 c.difference_by.ensures
