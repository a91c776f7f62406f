use Rattle.figures_counter.proofs.Sums.{Summing}
use Rattle.figures_counter.proofs.sum_counts.Given as goal

abbrev pub invariant-loop-i : goal.invariant-loop-i
invariant-loop-i g l = Summing l.initial.a l.b l.a l.i
