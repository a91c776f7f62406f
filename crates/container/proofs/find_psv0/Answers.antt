use mathlib.Core.Path.{◌∙◌}
use Rattle.container.proofs.find_psv0.Goals as goal

pub returns : goal.returns
returns c = c.find_both.ensures ∙ rw c.u32_at.ensures
