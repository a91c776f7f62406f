use mathlib.Core.Path.{◌∙◌}
use Rattle.root_signature_layout.specs.Root.{range_alone_of}
use Rattle.root_signature_layout.proofs.Steps.{stops, goes_on}
use Rattle.root_signature.proofs.range_alone.Goals as goal

pub returns-in_err-judge_alone : goal.returns-in_err-judge_alone
unfolding range_alone_of
returns-in_err-judge_alone c = stops _ _ _ c.judge_alone.ensures _ c.from_residual.ensures c.in_err-judge_alone.was

pub returns : goal.returns
unfolding range_alone_of
returns c = c.range_in.ensures ∙ goes_on _ _ _ c.judge_alone.ensures _ c.in_ok-judge_alone.was
