use mathlib.Core.Path.{sym, ◌∙◌, ap, refl}
use Rattle.wire.proofs.Verdicts.{refuses, refused_by}
use Rattle.psv0.proofs.Openings.{info_accepted}
use Rattle.psv0_layout.specs.Answers.{info_answer_of}
use Rattle.places_layout.specs.Placed.{opened_places}
use Rattle.qollqamir.specs.Boundary.{c_info}
use Rattle.qollqamir.proofs.qollqamir_psv0_runtime_info.Goals as goal

pub returns : goal.returns
returns c =
    c.qollqamir_places_runtime_info-shown.ensures ∙ ap c_info (info_accepted _ _ c.open_places.ensures c.in-Ok.is)

pub returns-in-Err : goal.returns-in-Err
unfolding info_answer_of opened_places
returns-in-Err c =
    c.from.ensures ∙ ap c_info (refuses _ _ refl (sym (refused_by _ _ c.open_places.ensures c.in-Err.is)))
