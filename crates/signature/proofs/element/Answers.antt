use Rattle.wire.specs.Verdict.{◌then◌}
use Rattle.wire.proofs.Verdicts.{passed_on, refuses, accepts, refused_by, accepted_by, value_by}
use Rattle.signature_layout.specs.Signature.{signature_of, element_shown, element_of, element_judged}
use Rattle.signature_layout.proofs.Signatures.{none_there, one_there, there_inside, there_good}
use Rattle.signature.proofs.element.Goals as goal

pub returns-in_err-read : goal.returns-in_err-read
unfolding signature_of element_of element_judged ◌then◌
returns-in_err-read c =
    let e = refused_by _ _ c.read.ensures c.in_err-read.was in
    rw e (rw e at (passed_on _ _ c.read.ensures (element_shown c.args.d.now c.args.i) c.from_residual.ensures c.in_err-read.was))

pub returns-then-branch-i : goal.returns-then-branch-i
unfolding signature_of element_of
returns-then-branch-i c =
    refuses _ _ c.refused.ensures
    (none_there _ _ (accepted_by _ _ c.read.ensures c.in_ok-read.was) (value_by _ _ c.read.ensures c.in_ok-read.was) c.if-branch-i.true)

pub answer_at-requires : goal.answer_at-requires
unfolding signature_of
answer_at-requires c =
    let a = accepted_by _ _ c.read.ensures c.in_ok-read.was in
    let n = value_by _ _ c.read.ensures c.in_ok-read.was in
    (there_inside _ _ a n c.if-branch-i.false, there_good _ _ a n c.if-branch-i.false)

pub returns : goal.returns
unfolding signature_of element_of
returns c =
    rw c.answer_at.ensures
    (accepts _ _ (one_there _ _ (accepted_by _ _ c.read.ensures c.in_ok-read.was) (value_by _ _ c.read.ensures c.in_ok-read.was) c.if-branch-i.false))
