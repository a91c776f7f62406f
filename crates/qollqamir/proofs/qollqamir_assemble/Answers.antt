use mathlib.Core.Path.{◌∙◌, ap}
use Rattle.qollqamir.specs.Boundary.{c_written}
use Rattle.qollqamir.proofs.qollqamir_assemble.Goals as goal

pub returns : goal.returns
returns c = record { value = c.into.ensures ∙ ap c_written c.assemble.ensures.value; out_after = c.assemble.ensures.out_after }
