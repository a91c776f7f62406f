use native.Mathlib.Omega.{arith}
use Rattle.assembler_layout.specs.Assembled.{total}
use Rattle.assembler_layout.proofs.Checks.{sum_less, sum_more, sum_all}
use Rattle.assembler.proofs.sums_to.Goals as goal

pub loop-size-init : goal.loop-size-init
unfolding total
loop-size-init c = omega arith

pub returns-in_default : goal.returns-in_default
returns-in_default c = let l = c.loop-size in sum_less _ l.size-index l.left _ l.invariant (omega arith) (omega (arith, c.in_default.ensures))

pub loop-size-preserved : goal.loop-size-preserved
loop-size-preserved c = let l = c.loop-size in sum_more _ l.size-index l.left _ l.invariant _ (omega arith) (omega (arith, c.in-Some.ensures))

pub returns : goal.returns
returns c = let l = c.loop-size in sum_all _ l.size-index l.left _ l.invariant (omega arith)
