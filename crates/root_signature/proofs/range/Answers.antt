use mathlib.Core.Path.{◌∙◌}
use Rattle.root_signature_layout.specs.Root.{range_answer_of}
use Rattle.root_signature_layout.proofs.Steps.{stops, goes_on}
use Rattle.root_signature.proofs.range.Goals as goal

pub returns-in_err-judge_query : goal.returns-in_err-judge_query
unfolding range_answer_of
returns-in_err-judge_query c = stops _ _ _ c.judge_query.ensures _ c.from_residual.ensures c.in_err-judge_query.was

pub returns : goal.returns
unfolding range_answer_of
returns c = c.range_in.ensures ∙ goes_on _ _ _ c.judge_query.ensures _ c.in_ok-judge_query.was
