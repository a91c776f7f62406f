use mathlib.Core.Path.{refl}
use Rattle.lines.proofs.Lines.{line_more}
use Rattle.lines.proofs.put.Goals as goal

pub returns-clause-line_after : goal.returns-clause-line_after
returns-clause-line_after c = λ t e. line_more t e _ c.put.ensures refl c.requires
