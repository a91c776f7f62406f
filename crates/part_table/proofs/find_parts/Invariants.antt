use mathlib.Core.Path.{◌≡◌}
use Rattle.part_table_layout.specs.Table.{name_at, filled}
use Rattle.part_table_layout.proofs.Judged.{Walked}
use Rattle.part_table.proofs.find_parts.Given as goal

abbrev pub invariant-loop-k : goal.invariant-loop-k
invariant-loop-k l = Walked l.b l.count l.k l.end × (l.names ≡ filled (name_at l.b) l.k)
