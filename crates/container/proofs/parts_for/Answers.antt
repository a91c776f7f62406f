use mathlib.Core.Path.{◌∙◌}
use Rattle.container.proofs.parts_for.Goals as goal

pub returns : goal.returns
returns c = c.three_parts.ensures ∙ rw (c.u32_at.ensures, c.u32_at-2.ensures)
