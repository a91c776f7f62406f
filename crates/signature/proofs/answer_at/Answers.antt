use mathlib.Core.Path.{◌∙◌, ap}
use Rattle.signature_layout.specs.Signature.{fields_of}
use Rattle.signature_layout.proofs.Steps.{answer_good, answer_is}
use Rattle.signature.proofs.answer_at.Goals as goal

pub name_at-requires : goal.name_at-requires
name_at-requires c =
    answer_good _ _ (c.fields-element.ensures ∙ ap fields_of c.element_at.ensures) c.requires.1

pub returns : goal.returns
returns c =
    answer_is _ _ (c.fields-element.ensures ∙ ap fields_of c.element_at.ensures) c.name_at.ensures
