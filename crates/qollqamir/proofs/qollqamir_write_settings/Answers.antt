use mathlib.Core.Path.{◌∙◌, ap}
use Rattle.qollqamir.specs.Boundary.{c_written}
use Rattle.qollqamir.proofs.qollqamir_write_settings.Goals as goal

pub returns : goal.returns
returns c = record { value = c.into.ensures ∙ ap c_written c.write.ensures.answered; out_after = c.write.ensures.left }
