use mathlib.Core.Path.{◌∙◌}
use Rattle.root_signature_layout.specs.Root.{item_queried}
use Rattle.root_signature_layout.proofs.Steps.{stops, goes_on}
use Rattle.root_signature.proofs.judge_query.Goals as goal

pub returns-in_err-judge : goal.returns-in_err-judge
unfolding item_queried
returns-in_err-judge c = stops _ _ _ c.judge.ensures _ c.from_residual.ensures c.in_err-judge.was

pub returns : goal.returns
unfolding item_queried
returns c = c.judge_there.ensures ∙ goes_on _ _ _ c.judge.ensures _ c.in_ok-judge.was
