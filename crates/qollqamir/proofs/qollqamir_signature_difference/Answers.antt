use mathlib.Core.Path.{◌∙◌, ap}
use Rattle.std.specs.Prelude.{Err}
use Rattle.signature_report_layout.specs.Reported.{difference_of}
use Rattle.qollqamir.specs.Boundary.{c_difference, difference_numbered}
use Rattle.qollqamir.proofs.Crossing.{answered_named, answered_unnamed}
use Rattle.qollqamir.proofs.qollqamir_signature_difference.Goals as goal

pub returns-in-Some : goal.returns-in-Some
unfolding difference_numbered
returns-in-Some c =
    let a = c.args in
    c.into.ensures ∙ ap c_difference (answered_named _ (λ s. difference_of s a.edition a.b.now) _ _ c.part_numbered.ensures c.in-Some.is c.first_difference.ensures)

pub returns-in-None : goal.returns-in-None
unfolding difference_numbered
returns-in-None c =
    let a = c.args in
    c.into-in-None.ensures
    ∙ ap c_difference (answered_unnamed _ (λ s. difference_of s a.edition a.b.now) _ _ c.part_numbered.ensures c.in-None.is (ap Err c.no_part.ensures))
