use mathlib.Core.Path.{◌∙◌}
use native.Mathlib.Omega.{arith}
use Rattle.container.proofs.Queries.{within, data_is, alone, stops}
use Rattle.psv0_layout.proofs.Spans.{passed_err}
use Rattle.psv0_layout.specs.Answers.{info_answer_of}
use Rattle.wire.proofs.Verdicts.{refuses}
use Rattle.container.proofs.runtime_info.Goals as goal

pub slice_bounds-runtime_info-count : goal.slice_bounds-runtime_info-count
slice_bounds-runtime_info-count c = omega (arith, within _ _ _ c.find_psv0.ensures c.in_ok-p.was)

pub slice_bounds-runtime_info-start : goal.slice_bounds-runtime_info-start
slice_bounds-runtime_info-start c = omega (arith, within _ _ _ c.find_psv0.ensures c.in_ok-p.was)

pub slice_bounds-runtime_info-end : goal.slice_bounds-runtime_info-end
slice_bounds-runtime_info-end c = omega (arith, within _ _ _ c.find_psv0.ensures c.in_ok-p.was)

pub returns-in_err-p : goal.returns-in_err-p
unfolding info_answer_of
returns-in_err-p c = refuses _ _ (passed_err _ c.from_residual.ensures) (stops _ _ _ c.find_psv0.ensures c.in_err-p.was)

pub returns : goal.returns
returns c = c.runtime_info.ensures ∙ alone _ _ _ c.find_psv0.ensures c.in_ok-p.was (data_is _ _ _ c.find_psv0.ensures c.in_ok-p.was) info_answer_of
