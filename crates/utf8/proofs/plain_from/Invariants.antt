use Prim.Native.Nat.{◌≤◌, ◌<◌}
use Rattle.utf8.proofs.Plain.{AtMost}
use Rattle.psv0_layout.specs.Position.{PlainFrom}
use Rattle.utf8.proofs.plain_from.Given as goal

abbrev pub invariant-loop-i : goal.invariant-loop-i
invariant-loop-i l = (l.from ≤ l.i) × AtMost l.t l.from l.i l.most × (PlainFrom l.t l.from → l.most < 128)
