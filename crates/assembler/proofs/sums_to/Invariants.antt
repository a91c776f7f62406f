use Prim.Native.Nat.{◌+◌}
use mathlib.Core.Path.{◌≡◌}
use lib.ListN.{take}
use Rattle.assembler_layout.specs.Assembled.{total}
use Rattle.assembler.proofs.sums_to.Given as goal

abbrev pub invariant-loop-size : goal.invariant-loop-size
invariant-loop-size l = l.left + total (take l.size-index l.sizes) ≡ l.sum
