use mathlib.Core.Path.{◌≡◌}
use lib.ListN.{get_or}
use Rattle.wire.specs.Verdict.{each, Accepted}
use Rattle.part_table_layout.specs.Table.{name_judged}
use Rattle.part_table.proofs.judge_names.Given as goal

abbrev pub invariant-loop-i : goal.invariant-loop-i
invariant-loop-i l = each (name_judged (λ k. get_or l.names k 0)) l.i ≡ Accepted
