use lib.ListN.{length, get_or}
use Rattle.part_table_layout.proofs.Counting.{Compared}
use Rattle.part_table.proofs.compare_names.Given as goal

abbrev pub invariant-loop-k : goal.invariant-loop-k
invariant-loop-k l = Compared (λ i. get_or l.names i 0) (length l.names) l.k l.pairs
