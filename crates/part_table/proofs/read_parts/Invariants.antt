use mathlib.Core.Path.{◌≡◌}
use Rattle.part_table_layout.specs.Table.{name_at}
use Rattle.part_table_layout.proofs.Judged.{Walked}
use Rattle.part_table_layout.proofs.Occurrences.{repeats_below}
use Rattle.part_table_layout.proofs.Readings.{table_to}
use Rattle.part_table.proofs.read_parts.Given as goal

abbrev pub invariant-loop-i : goal.invariant-loop-i
invariant-loop-i l = Walked l.b l.count l.i l.end × (l.t ≡ table_to l.counting 0 l.b l.i) × (l.repeats ≡ repeats_below (name_at l.b) l.i)
