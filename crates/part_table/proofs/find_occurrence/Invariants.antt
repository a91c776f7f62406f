use Rattle.part_table_layout.proofs.Lookups.{Looked}
use Rattle.part_table.proofs.find_occurrence.Given as goal

abbrev pub invariant-loop-i : goal.invariant-loop-i
invariant-loop-i l = Looked l.names l.count l.x l.occurrence l.n l.i l.left
