use Prim.Native.Nat.{◌≤◌}
use Rattle.utf8.specs.One.{Letters}
use Rattle.utf8.proofs.letters_end.Given as goal

abbrev pub invariant-loop-i : goal.invariant-loop-i
invariant-loop-i l = (l.from ≤ l.i) × Letters l.t l.from l.i
