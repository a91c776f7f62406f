use mathlib.Core.Path.{refl, ◌∙◌}
use native.Mathlib.Omega.{arith}
use lib.ListN.{length-set}
use Rattle.wire.proofs.Stretches.{copied_not, copy_more, copy_all}
use Rattle.wire.proofs.copy.Goals as goal

pub loop-i-init : goal.loop-i-init
loop-i-init c = (refl, refl)

pub bounds-out-i : goal.bounds-out-i
bounds-out-i c = omega arith

pub loop-i-preserved : goal.loop-i-preserved
loop-i-preserved c =
    let l = c.loop-i in
    let e = l.invariant.1 in
    (simp length-set (omega arith), rw e (copy_more _ _ l.i (omega arith) (omega arith)))

pub returns-after-loop-i : goal.returns-after-loop-i
returns-after-loop-i c = c.loop-i.invariant.1 ∙ copy_all _ _ c.loop-i.i (omega arith) (omega arith)

pub returns-else-out-n : goal.returns-else-out-n
returns-else-out-n c = copied_not _ _ c.if-out-n.false
