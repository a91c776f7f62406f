use native.Mathlib.Omega.{arith}
use Rattle.utf8.proofs.Plain.{counted_begin, counted_more, counted_end, count_points}
use Rattle.utf8.proofs.code_points.Goals as goal

pub loop-x-init : goal.loop-x-init
loop-x-init c = (omega arith, counted_begin _)

pub overflow_add-n : goal.overflow_add-n
overflow_add-n c = omega (arith, c.loop-x.invariant.0, c.lead-n.ensures.1)

pub loop-x-preserved : goal.loop-x-preserved
loop-x-preserved c =
    let l = c.loop-x in
    (omega (arith, l.invariant.0, c.lead-n.ensures.1), counted_more c.args.s.now l.x-index l.n _ l.invariant.1 c.loop-x-test.true c.lead-n.ensures.0)

pub returns : goal.returns
returns c =
    let l = c.loop-x in
    let s = c.args.s.now in
    let e = counted_end s l.x-index l.n l.invariant.1 (omega (arith, l.auto.x-index-end, c.loop-x-test.false)) in
    (e, omega (arith, l.invariant.0, l.auto.x-index-end), count_points s l.n e)
