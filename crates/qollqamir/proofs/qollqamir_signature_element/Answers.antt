use mathlib.Core.Path.{◌∙◌, ap}
use Rattle.std.specs.Prelude.{Err}
use Rattle.signature_report_layout.specs.Reported.{element_report_of}
use Rattle.qollqamir.specs.Boundary.{c_signature_element, element_numbered}
use Rattle.qollqamir.proofs.Crossing.{answered_named, answered_unnamed}
use Rattle.qollqamir.proofs.qollqamir_signature_element.Goals as goal

pub returns-in-Some : goal.returns-in-Some
unfolding element_numbered
returns-in-Some c =
    let a = c.args in
    c.into.ensures ∙ ap c_signature_element (answered_named _ (λ s. element_report_of s a.edition a.b.now a.i) _ _ c.part_numbered.ensures c.in-Some.is c.element.ensures)

pub returns-in-None : goal.returns-in-None
unfolding element_numbered
returns-in-None c =
    let a = c.args in
    c.into-in-None.ensures
    ∙ ap c_signature_element (answered_unnamed _ (λ s. element_report_of s a.edition a.b.now a.i) _ _ c.part_numbered.ensures c.in-None.is (ap Err c.no_part.ensures))
