use mathlib.Core.Path.{◌∙◌, ap}
use Rattle.signature_layout.specs.Signature.{view_of}
use Rattle.signature_report_layout.specs.Reported.{element_report_of}
use Rattle.qollqamir.specs.Boundary.{c_span, element_numbered}
use Rattle.qollqamir.proofs.Crossing.{named, unnamed}
use Rattle.qollqamir.proofs.qollqamir_signature_name.Goals as goal

pub returns-in-Some : goal.returns-in-Some
unfolding element_numbered
returns-in-Some c =
    let z = named _ _ c.part_numbered.ensures c.in-Some.is in
    c.into.ensures ∙ ap c_span c.name.ensures ∙ rw (z.0, z.1)

pub returns-in-None : goal.returns-in-None
unfolding element_numbered
returns-in-None c =
    let z = unnamed _ _ c.part_numbered.ensures c.in-None.is in
    c.into-in-None.ensures ∙ rw (z, c.no_part.ensures)
