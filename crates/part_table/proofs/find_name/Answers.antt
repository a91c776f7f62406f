use mathlib.Core.Path.{◌∙◌}
use Rattle.part_table_layout.proofs.Lookups.{first_in}
use Rattle.part_table.proofs.find_name.Goals as goal

pub returns : goal.returns
returns c = c.find_occurrence.ensures ∙ first_in _ _ _
