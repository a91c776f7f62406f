use native.Mathlib.Omega.{arith}
use mathlib.Core.Path.{sym}
use Rattle.wire.proofs.Verdicts.{accepts, accepted_by, passed_on}
use Rattle.root_signature_layout.specs.Root.{item_of}
use Rattle.root_signature_layout.proofs.Steps.{queried_few}
use Rattle.root_signature.proofs.item.Goals as goal

pub returns-in_err-judge_query : goal.returns-in_err-judge_query
unfolding item_of
returns-in_err-judge_query c = passed_on _ _ c.judge_query.ensures _ c.from_residual.ensures c.in_err-judge_query.was

pub returns : goal.returns
unfolding item_of
returns c = rw c.item_at.ensures (accepts _ _ (sym (accepted_by _ _ c.judge_query.ensures c.in_ok-judge_query.was)))

pub item_at-requires : goal.item_at-requires
item_at-requires c = queried_few _ _ (λ k. omega (arith, c.type_inv.d k)) (accepted_by _ _ c.judge_query.ensures c.in_ok-judge_query.was)
