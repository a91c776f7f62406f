use Rattle.figures_counter.proofs.Steps.{shown_if}
use Rattle.figures_counter.proofs.stage_shown.Goals as goal

pub returns : goal.returns
returns c = rw (c.then_some.ensures, c.min.ensures, c.from.ensures) (shown_if _ _)
