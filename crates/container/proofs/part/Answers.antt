use mathlib.Core.Path.{◌∙◌}
use native.Mathlib.Omega.{arith}
use Rattle.container.proofs.Queries.{within, data_is, no_part, asked_refused, asked_shown}
use Rattle.psv0_layout.proofs.Spans.{passed_err}
use Rattle.container.proofs.part.Goals as goal

pub slice_bounds-open-count : goal.slice_bounds-open-count
slice_bounds-open-count c = omega (arith, within _ _ _ c.find_both.ensures c.in_ok-p.was)

pub slice_bounds-open-start : goal.slice_bounds-open-start
slice_bounds-open-start c = omega (arith, within _ _ _ c.find_both.ensures c.in_ok-p.was)

pub slice_bounds-open-end : goal.slice_bounds-open-end
slice_bounds-open-end c = omega (arith, within _ _ _ c.find_both.ensures c.in_ok-p.was)

pub returns-in_err-p : goal.returns-in_err-p
returns-in_err-p c = passed_err _ c.from_residual.ensures ∙ no_part _ _ _ c.find_both.ensures c.in_err-p.was c.u32_at.result ∙ rw c.u32_at.ensures

pub returns-in_err-open : goal.returns-in_err-open
returns-in_err-open c =
    passed_err _ c.from_residual-in_err-open.ensures
    ∙ asked_refused _ _ _ c.find_both.ensures c.in_ok-p.was (data_is _ _ _ c.find_both.ensures c.in_ok-p.was) _ c.open.ensures c.in_err-open.was
    ∙ rw c.u32_at.ensures

pub returns : goal.returns
returns c =
    asked_shown _ _ _ c.find_both.ensures c.in_ok-p.was (data_is _ _ _ c.find_both.ensures c.in_ok-p.was) _ c.open.ensures c.in_ok-open.was ∙ rw c.u32_at.ensures
