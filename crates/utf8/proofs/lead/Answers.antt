use mathlib.Core.Path.{◌∙◌}
use Rattle.utf8.proofs.Marking.{byte_small}
use Rattle.utf8.proofs.Plain.{lead_byte}
use Rattle.utf8.proofs.lead.Goals as goal

pub returns : goal.returns
returns c = (c.from.ensures ∙ lead_byte c.args.x, rw c.from.ensures (byte_small _))
