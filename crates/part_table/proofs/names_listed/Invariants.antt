use mathlib.Core.Path.{◌≡◌}
use Rattle.part_table_layout.specs.Table.{name_at, filled}
use Rattle.part_table.proofs.names_listed.Given as goal

abbrev pub invariant-loop-k : goal.invariant-loop-k
invariant-loop-k l = l.names ≡ filled (name_at l.b) l.k
