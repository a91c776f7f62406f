use native.Mathlib.Omega.{arith}
use mathlib.Core.Path.{sym}
use Rattle.wire.proofs.Verdicts.{accepts, accepted_by, passed_on}
use Rattle.root_signature_layout.specs.Root.{item_alone_of}
use Rattle.root_signature_layout.proofs.Steps.{alone_few}
use Rattle.root_signature.proofs.item_alone.Goals as goal

pub returns-in_err-judge_alone : goal.returns-in_err-judge_alone
unfolding item_alone_of
returns-in_err-judge_alone c = passed_on _ _ c.judge_alone.ensures _ c.from_residual.ensures c.in_err-judge_alone.was

pub returns : goal.returns
unfolding item_alone_of
returns c = rw c.item_at.ensures (accepts _ _ (sym (accepted_by _ _ c.judge_alone.ensures c.in_ok-judge_alone.was)))

pub item_at-requires : goal.item_at-requires
item_at-requires c = alone_few _ _ (λ k. omega (arith, c.type_inv.d k)) (accepted_by _ _ c.judge_alone.ensures c.in_ok-judge_alone.was)
