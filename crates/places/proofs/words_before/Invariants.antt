use Prim.Native.Nat.{◌*◌, ◌≤◌}
use mathlib.Core.Path.{◌≡◌}
use lib.ListN.{take}
use Rattle.psv0_layout.specs.Field.{sum}
use Rattle.places.proofs.words_before.Given as goal

abbrev pub invariant-loop-n : goal.invariant-loop-n
invariant-loop-n l = (l.total ≡ sum (take l.n-index l.words)) × (l.total ≤ l.n-index * 4294967295)
