use mathlib.Core.Path.{sym, ◌∙◌}
use Rattle.settings_reader.proofs.Steps.{number_there, number_missing}
use Rattle.settings_reader.proofs.number_at.Goals as goal

pub returns-in-Ok : goal.returns-in-Ok
returns-in-Ok c = number_there _ _ (sym c.groups_at.ensures ∙ c.in-Ok.is)

pub returns-in-Err : goal.returns-in-Err
returns-in-Err c = number_missing _ _ (sym c.groups_at.ensures ∙ c.in-Err.is) c.refused.ensures
