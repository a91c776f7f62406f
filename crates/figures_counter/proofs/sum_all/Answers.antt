use mathlib.Core.Path.{◌∙◌}
use native.Mathlib.Omega.{arith}
use Rattle.figures_layout.specs.Figures.{summed}
use Rattle.figures_counter.proofs.Sums.{capped}
use Rattle.figures_counter.proofs.sum_all.Goals as goal

pub returns : goal.returns
unfolding summed
returns c =
    let cap = capped 65535 in
    λ i.
    record {
      edition = c.args.f.edition;
      bytes = (c.saturating_add.ensures ∙ capped 18446744073709551615 _ _ (omega arith)) i;
      opened = (c.saturating_add-2.ensures ∙ cap _ _ (omega arith)) i;
      accepted = (c.saturating_add-3.ensures ∙ cap _ _ (omega arith)) i;
      refused = (c.saturating_add-4.ensures ∙ cap _ _ (omega arith)) i;
      refusals = c.sum_counts.ensures i;
      editions = c.sum_counts-2.ensures i;
      stages = c.sum_counts-3.ensures i;
      unset = (c.saturating_add-5.ensures ∙ cap _ _ (omega arith)) i;
    }
