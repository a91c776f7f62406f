use mathlib.Core.Path.{sym, ◌∙◌}
use native.Mathlib.Omega.{arith}
use Rattle.container.proofs.Queries.{within, data_is, alone, stops, queried_refused}
use Rattle.psv0_layout.proofs.Spans.{passed_err}
use Rattle.psv0_layout.specs.Answers.{element_answer_of}
use Rattle.wire.proofs.Verdicts.{refuses}
use Rattle.container.proofs.element.Goals as goal

pub slice_bounds-element-count : goal.slice_bounds-element-count
slice_bounds-element-count c = omega (arith, within _ _ _ c.find_psv0.ensures c.in_ok-p.was)

pub slice_bounds-element-start : goal.slice_bounds-element-start
slice_bounds-element-start c = omega (arith, within _ _ _ c.find_psv0.ensures c.in_ok-p.was)

pub slice_bounds-element-end : goal.slice_bounds-element-end
slice_bounds-element-end c = omega (arith, within _ _ _ c.find_psv0.ensures c.in_ok-p.was)

pub returns-in_err-p : goal.returns-in_err-p
unfolding element_answer_of
returns-in_err-p c = refuses _ _ (passed_err _ c.from_residual.ensures) (queried_refused _ (sym (stops _ _ _ c.find_psv0.ensures c.in_err-p.was)))

pub returns : goal.returns
returns c = c.element.ensures ∙ alone _ _ _ c.find_psv0.ensures c.in_ok-p.was (data_is _ _ _ c.find_psv0.ensures c.in_ok-p.was) (λ o a. element_answer_of o a c.args.i)
