use mathlib.Core.Path.{◌∙◌}
use Rattle.part_table_layout.proofs.Lookups.{later_occurrence}
use Rattle.part_table.proofs.find_part_occurrence.Goals as goal

pub returns : goal.returns
returns c = c.later_part.ensures ∙ rw c.u32_at.ensures (later_occurrence _ _ _ c.find_part.ensures)
