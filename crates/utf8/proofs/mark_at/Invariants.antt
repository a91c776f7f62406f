use Prim.Native.Nat.{◌+◌, ◌-◌, ◌*◌}
use mathlib.Core.Path.{◌≡◌}
use Rattle.utf8.specs.Marks.{flag}
use Rattle.utf8.proofs.Marking.{upper}
use Rattle.utf8.proofs.mark_at.Given as goal

abbrev pub invariant-loop-k : goal.invariant-loop-k
invariant-loop-k l = (l.flag ≡ flag l.t (l.p + 32 * l.k)) × (l.mark ≡ upper l.t l.p (8 - l.k) l.k)
