use mathlib.Core.Path.{◌∙◌, ap}
use Rattle.qollqamir.specs.Boundary.{c_joined}
use Rattle.qollqamir.proofs.qollqamir_figures_join.Goals as goal

pub returns : goal.returns
returns c = c.c_joined.ensures ∙ ap (c_joined c.args.f) c.join.ensures
