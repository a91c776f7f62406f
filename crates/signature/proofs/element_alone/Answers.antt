use mathlib.Core.Path.{sym, ◌∙◌}
use native.Mathlib.Omega.{arith}
use Rattle.wire.proofs.Verdicts.{refuses, accepts, passed_on, accepted_by}
use Rattle.signature_layout.specs.Signature.{alone_of}
use Rattle.signature_layout.proofs.Signatures.{alone_43, alone_26, alone_44, alone_name, judged_good}
use Rattle.signature.proofs.element_alone.Goals as goal

pub returns-then-len-lt8 : goal.returns-then-len-lt8
unfolding alone_of
returns-then-len-lt8 c = refuses _ _ c.refused.ensures (alone_43 _ _ c.if-len-lt8.true)

pub returns-then-u32_at-i : goal.returns-then-u32_at-i
unfolding alone_of
returns-then-u32_at-i c =
    refuses _ _ c.refused-then-u32_at-i.ensures (alone_26 _ _ c.if-len-lt8.false c.u32_at.ensures c.if-u32_at-i.true)

pub returns-then-len-u32_at : goal.returns-then-len-u32_at
unfolding alone_of
returns-then-len-u32_at c =
    refuses _ _ c.refused-then-len-u32_at.ensures
    (alone_44 _ _ c.if-len-lt8.false c.u32_at.ensures c.if-u32_at-i.false c.u32_at-2.ensures c.if-len-u32_at.true)

pub returns-in_err-judge_name : goal.returns-in_err-judge_name
unfolding alone_of
returns-in_err-judge_name c =
    let e = alone_name _ _ c.if-len-lt8.false c.u32_at.ensures c.if-u32_at-i.false c.u32_at-2.ensures c.if-len-u32_at.false in
    passed_on _ _ (rw e at c.judge_name.ensures) _ c.from_residual.ensures c.in_err-judge_name.was

pub answer_at-requires : goal.answer_at-requires
answer_at-requires c = (
  omega (arith, c.u32_at-2.ensures, c.if-len-u32_at.false),
  judged_good _ _ (accepted_by _ _ c.judge_name.ensures c.in_ok-judge_name.was),
)

pub returns : goal.returns
unfolding alone_of
returns c =
    let e = alone_name _ _ c.if-len-lt8.false c.u32_at.ensures c.if-u32_at-i.false c.u32_at-2.ensures c.if-len-u32_at.false in
    rw c.answer_at.ensures (accepts _ _ (sym (accepted_by _ _ c.judge_name.ensures c.in_ok-judge_name.was) ∙ e))
