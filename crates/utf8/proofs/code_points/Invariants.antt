use Prim.Native.Nat.{◌≤◌}
use Rattle.utf8.proofs.Plain.{Counted}
use Rattle.utf8.proofs.code_points.Given as goal

abbrev pub invariant-loop-x : goal.invariant-loop-x
invariant-loop-x l = (l.n ≤ l.x-index) × Counted l.s l.x-index l.n
