use mathlib.Core.Path.{◌∙◌}
use Rattle.container_layout.proofs.Parts.{later_part_lem}
use Rattle.container.proofs.part_occurrence.Goals as goal

pub returns : goal.returns
returns c = c.later_part.ensures ∙ rw c.u32_at.ensures (later_part_lem _ _ _ _ c.part.ensures)
