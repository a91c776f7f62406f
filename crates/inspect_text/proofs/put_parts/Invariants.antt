use Prim.Native.Nat.{◌≤◌}
use Rattle.inspect_text.proofs.Texts.{Listed}
use Rattle.inspect_text.proofs.put_parts.Given as goal

abbrev pub invariant-loop-i : goal.invariant-loop-i
invariant-loop-i l = (l.i-end ≤ 96) × Listed l.initial.text l.b l.i l.text
