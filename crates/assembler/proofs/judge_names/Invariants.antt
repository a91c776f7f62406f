use Prim.Native.Nat.{◌*◌}
use mathlib.Core.Path.{◌≡◌}
use Rattle.wire.specs.Number.{u32_at}
use Rattle.wire.specs.Verdict.{each, Accepted}
use Rattle.part_table_layout.specs.Table.{name_judged, filled}
use Rattle.assembler.proofs.judge_names.Given as goal

abbrev pub invariant-loop-i : goal.invariant-loop-i
invariant-loop-i l = (l.seen ≡ filled (λ k. u32_at l.names (4 * k)) l.i) × (each (name_judged (λ k. u32_at l.names (4 * k))) l.i ≡ Accepted)
