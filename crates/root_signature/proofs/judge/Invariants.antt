use mathlib.Core.Path.{◌≡◌}
use Rattle.wire.specs.Verdict.{each, Accepted}
use Rattle.root_signature_layout.specs.Root.{item_judged}
use Rattle.root_signature.proofs.judge.Given as goal

abbrev pub invariant-loop-i : goal.invariant-loop-i
invariant-loop-i l = each (item_judged l.d) l.i ≡ Accepted
