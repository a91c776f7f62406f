use mathlib.Core.Path.{refl}
use Rattle.inspect_text.proofs.Texts.{output_more}
use Rattle.inspect_text.proofs.put.Goals as goal

pub returns-clause-text_after : goal.returns-clause-text_after
returns-clause-text_after c = λ t e. output_more t e _ c.put.ensures refl c.requires
