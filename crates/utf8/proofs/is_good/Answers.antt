use mathlib.Core.Path.{◌∙◌, ap}
use Rattle.std.specs.Option.{is_some}
use Rattle.utf8.proofs.One.{good_some}
use Rattle.utf8.proofs.is_good.Goals as goal

pub returns : goal.returns
returns c = c.is_some.ensures ∙ ap is_some c.read_string.ensures ∙ good_some c.args.t.now c.args.o
