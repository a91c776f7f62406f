use mathlib.Core.Path.{◌≡◌}
use Rattle.part_table_runs.proofs.many.Given as goal

abbrev pub invariant-loop-k : goal.invariant-loop-k
invariant-loop-k l = l.n ≡ l.parts
