use Prim.Native.Nat.{◌≤◌}
use mathlib.Core.Path.{◌≡◌}
use Rattle.wire.specs.Verdict.{each, Accepted}
use Rattle.signature_layout.specs.Signature.{name_judged}
use Rattle.signature.proofs.read.Given as goal

abbrev pub invariant-loop-i : goal.invariant-loop-i
invariant-loop-i l = (each (name_judged l.d) l.i ≡ Accepted) × (l.i ≤ l.ill)
