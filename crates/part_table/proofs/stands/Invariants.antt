use mathlib.Core.Path.{◌≡◌}
use Rattle.part_table_layout.proofs.Judged.{seen_below}
use Rattle.part_table.proofs.stands.Given as goal

abbrev pub invariant-loop-name : goal.invariant-loop-name
invariant-loop-name l = l.hit ≡ seen_below l.names l.x l.name-index
