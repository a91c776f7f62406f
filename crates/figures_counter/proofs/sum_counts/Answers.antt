use mathlib.Core.Path.{◌∙◌}
use native.Mathlib.Omega.{arith}
use Rattle.figures_counter.proofs.Sums.{capped, summing_more, summing_done}
use Rattle.figures_counter.proofs.sum_counts.Goals as goal

pub loop-i-preserved : goal.loop-i-preserved
loop-i-preserved g c = summing_more _ _ _ _ c.loop-i.invariant (omega arith) (c.saturating_add.ensures ∙ capped 65535 _ _ (omega arith))

pub returns : goal.returns
returns g c = summing_done _ _ _ _ c.loop-i.invariant (omega arith)
