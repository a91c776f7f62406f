use mathlib.Core.Path.{refl}
use Rattle.figures_layout.specs.Kinds.{tally, total}
use Rattle.figures_layout.specs.Figures.{table, figures_of, started}
use Rattle.figures_counter.proofs.start.Goals as goal

pub returns : goal.returns
unfolding started figures_of total tally table
returns c = refl
