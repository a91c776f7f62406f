use mathlib.Core.Path.{refl, ◌∙◌}
use Rattle.wire.proofs.Verdicts.{accepts, refused_by, accepted_by, passed_on}
use Rattle.psv0_layout.specs.Given.{tables}
use Rattle.psv0_layout.proofs.Judgements.{given_early, given_fields, given_tables}
use Rattle.psv0_sections.proofs.judge_given.Goals as goal

pub returns-then-edition-eq0 : goal.returns-then-edition-eq0
returns-then-edition-eq0 c = accepts _ _ (given_early _ _ _ _ _ c.if-edition-eq0.true)

pub returns-in_err-judge_fields : goal.returns-in_err-judge_fields
returns-in_err-judge_fields c =
    let p = c.args in
    let f = refused_by _ _ c.judge_fields.ensures c.in_err-judge_fields.was in
    passed_on _ _ c.judge_fields.ensures _ c.from_residual.ensures c.in_err-judge_fields.was
    ∙ rw (f, ← given_fields _ p.r.now p.t.now p.x.now p.e.now c.if-edition-eq0.false _ refl f)

pub returns : goal.returns
returns c =
    let p = c.args in
    rw (← given_tables _ p.r.now p.t.now p.x.now p.e.now c.if-edition-eq0.false _ refl (accepted_by _ _ c.judge_fields.ensures c.in_ok-judge_fields.was) refl)
    (rw c.u32_at.ensures at (c.judge.ensures (tables p.t.now p.x.now p.e.now) refl refl refl))
