use Prim.Native.Nat.{◌≤◌}
use mathlib.Core.Path.{◌≡◌}
use Rattle.wire.specs.Verdict.{each, Accepted}
use Rattle.psv0_layout.specs.Judged.{element_judged}
use Rattle.psv0_layout.specs.Layout.{Body, rows}
use Rattle.psv0_layout.specs.Position.{Judging}
use Rattle.psv0_sections.proofs.Tables.judge_elements.Given as goal

abbrev pub invariant-loop-i : goal.invariant-loop-i
invariant-loop-i l =
    (l.i ≤ l.ill)
    × ((b : Body) → Judging b l.end l.ill l.self.indices (rows 16 l.self.count l.self.stride l.self.elements.now) → each (element_judged b.strings b.indices b.elements) l.i ≡ Accepted)
