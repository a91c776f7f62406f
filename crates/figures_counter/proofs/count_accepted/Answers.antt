use mathlib.Core.Path.{◌∙◌}
use native.Mathlib.Omega.{arith}
use Rattle.figures_counter.proofs.Steps.{unset_more, stage_more}
use Rattle.figures_counter.proofs.Sums.{capped}
use Rattle.figures_counter.proofs.count_accepted.Goals as goal

pub bounds-f-i : goal.bounds-f-i
bounds-f-i c = omega (arith, c.requires.stage _ c.in-Some.is)

pub bounds-f-i-in-Some : goal.bounds-f-i-in-Some
bounds-f-i-in-Some c = omega (arith, c.requires.stage _ c.in-Some.is)

pub returns-in-None : goal.returns-in-None
returns-in-None c =
    let cap = capped 65535 in
    unset_more c.args.f c.args.t c.args.len c.requires (c.saturating_add.ensures ∙ capped 18446744073709551615 _ _ (omega arith)) (c.saturating_add-2.ensures ∙ cap _ _ (omega arith)) (c.saturating_add-3.ensures ∙ cap _ _ (omega arith)) (c.saturating_add-4.ensures ∙ cap _ _ (omega arith)) c.in-None.is
    (c.saturating_add-in-None.ensures ∙ cap _ _ (omega arith))

pub returns-in-Some : goal.returns-in-Some
returns-in-Some c =
    let cap = capped 65535 in
    stage_more c.args.f c.args.t c.args.len c.requires (c.saturating_add.ensures ∙ capped 18446744073709551615 _ _ (omega arith)) (c.saturating_add-2.ensures ∙ cap _ _ (omega arith)) (c.saturating_add-3.ensures ∙ cap _ _ (omega arith)) (c.saturating_add-4.ensures ∙ cap _ _ (omega arith)) c.in-Some.is
    (c.saturating_add-in-Some.ensures ∙ cap _ _ (omega arith))
