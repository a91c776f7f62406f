use mathlib.Core.Path.{◌∙◌, ap}
use Rattle.qollqamir.specs.Boundary.{c_added}
use Rattle.qollqamir.proofs.qollqamir_figures_add.Goals as goal

pub returns : goal.returns
returns c = c.c_added.ensures ∙ ap (c_added c.args.f) c.add.ensures
