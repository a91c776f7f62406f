use mathlib.Core.Path.{◌∙◌, ap}
use native.Mathlib.Omega.{arith}
use Rattle.figures_counter.specs.Steps.{one_refused}
use Rattle.figures_counter.proofs.Steps.{refused_more}
use Rattle.figures_counter.proofs.Sums.{capped}
use Rattle.figures_counter.proofs.count_refused.Goals as goal

pub returns : goal.returns
returns c =
    let cap = capped 65535 in
    refused_more c.args.f _ (omega arith) (c.saturating_add.ensures ∙ cap _ _ (omega arith)) (c.saturating_add-2.ensures ∙ cap _ _ (omega arith)) (c.saturating_add-3.ensures ∙ cap _ _ (omega arith))
    ∙ ap (one_refused c.args.f) c.from-i.ensures
