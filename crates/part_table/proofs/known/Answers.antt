use mathlib.Core.Path.{◌∙◌, ap}
use Rattle.constants.specs.Name.{is_known}
use Rattle.part_table.proofs.known.Goals as goal

pub returns : goal.returns
returns c = c.known_name.ensures ∙ ap is_known c.u32_at.ensures
