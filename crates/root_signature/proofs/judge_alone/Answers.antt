use native.Mathlib.Omega.{arith}
use mathlib.Core.Path.{◌∙◌}
use Rattle.root_signature_layout.specs.Root.{item_alone}
use Rattle.wire.proofs.Verdicts.{accepted_by}
use Rattle.root_signature_layout.proofs.Steps.{stops, goes_on, there_few}
use Rattle.root_signature.proofs.judge_alone.Goals as goal

pub returns-in_err-judge_header : goal.returns-in_err-judge_header
unfolding item_alone
returns-in_err-judge_header c = stops _ _ _ c.judge_header.ensures _ c.from_residual.ensures c.in_err-judge_header.was

pub returns-in_err-judge_there : goal.returns-in_err-judge_there
unfolding item_alone
returns-in_err-judge_there c =
    stops _ _ _ c.judge_there.ensures _ c.from_residual-in_err-judge_there.ensures c.in_err-judge_there.was
    ∙ goes_on _ _ _ c.judge_header.ensures _ c.in_ok-judge_header.was

pub returns : goal.returns
unfolding item_alone
returns c =
    c.judge_item.ensures ∙ goes_on _ _ _ c.judge_there.ensures _ c.in_ok-judge_there.was ∙ goes_on _ _ _ c.judge_header.ensures _ c.in_ok-judge_header.was

pub judge_item-requires : goal.judge_item-requires
judge_item-requires c = there_few _ _ (λ k. omega (arith, c.type_inv.d k)) (accepted_by _ _ c.judge_there.ensures c.in_ok-judge_there.was)
