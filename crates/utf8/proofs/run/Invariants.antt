use Prim.Native.Nat.{◌≤◌, ◌-◌}
use mathlib.Core.Path.{◌≡◌}
use Rattle.utf8.specs.Machine.{State, ran}
use Rattle.utf8.proofs.run.Given as goal

abbrev pub invariant-loop-p : goal.invariant-loop-p
invariant-loop-p l = (l.from ≤ l.p) × (l.s ≡ ran l.t l.from (l.p - l.from) l.state) × State l.s
