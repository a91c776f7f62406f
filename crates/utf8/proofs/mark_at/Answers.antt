use mathlib.Core.Path.{◌≡◌, ◌∙◌}
use native.Mathlib.Omega.{arith}
use Rattle.utf8.proofs.Marking.{byte_small, upper, upper_half, upper_next, upper_all}
use Rattle.utf8.proofs.mark_at.Goals as goal

pub loop-k-init : goal.loop-k-init
unfolding upper
loop-k-init c = (c.requires.1, omega arith)

pub overflow_mul-mark : goal.overflow_mul-mark
overflow_mul-mark c =
    let l = c.loop-k in
    record { fits = omega (arith, upper_half c.args.t.now c.args.p l.k l.mark c.loop-k-test.true l.invariant.1 l.auto.k) }

pub overflow_add-mark : goal.overflow_add-mark
overflow_add-mark c =
    let l = c.loop-k in
    record { fits = omega (arith, upper_half c.args.t.now c.args.p l.k l.mark c.loop-k-test.true l.invariant.1 l.auto.k, c.from.ensures, byte_small c.flag_at-flag.result) }

pub loop-k-preserved : goal.loop-k-preserved
loop-k-preserved c =
    let l = c.loop-k in
    (c.flag_at-flag.ensures, rw c.from.ensures (upper_next c.args.t.now c.args.p l.k l.mark c.loop-k-test.true l.invariant.1 l.auto.k c.flag_at-flag.result c.flag_at-flag.ensures))

pub returns : goal.returns
returns c =
    let l = c.loop-k in
    let z : l.k ≡ 0 = omega arith in
    (rw z at l.invariant.1) ∙ upper_all c.args.t.now c.args.p
