use mathlib.Core.Path.{◌∙◌, ap}
use Rattle.container.proofs.Queries.{placed_info, no_placed_info}
use Rattle.qollqamir.specs.Boundary.{c_info}
use Rattle.qollqamir.proofs.qollqamir_runtime_info.Goals as goal

pub returns : goal.returns
returns c =
    c.qollqamir_places_runtime_info-shown.ensures ∙ ap c_info (placed_info _ _ c.open_places.ensures c.in-Ok.is)

pub returns-in-Err : goal.returns-in-Err
returns-in-Err c = c.from.ensures ∙ ap c_info (no_placed_info _ _ c.open_places.ensures c.in-Err.is)
