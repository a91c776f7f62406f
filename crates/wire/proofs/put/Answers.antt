use mathlib.Core.Path.{refl}
use native.Mathlib.Omega.{arith}
use Rattle.wire.proofs.Numbers.{placed_out}
use Rattle.wire.proofs.Stretches.{lent_placed}
use Rattle.wire.proofs.put.Goals as goal

pub returns-then-n-len : goal.returns-then-n-len
returns-then-n-len c = lent_placed _ _ _ (omega arith) c.copy.ensures

pub returns-else-n-len : goal.returns-else-n-len
returns-else-n-len c = placed_out _ _ _ _ refl (omega arith)

pub returns-else-at-len : goal.returns-else-at-len
returns-else-at-len c = placed_out _ _ _ _ refl (omega arith)
