use mathlib.Core.Path.{sym}
use Rattle.wire.proofs.Verdicts.{accepts, accepted_by, passed_on}
use Rattle.root_signature_layout.specs.Root.{root_of}
use Rattle.root_signature.proofs.read.Goals as goal

pub returns-in_err-judge : goal.returns-in_err-judge
unfolding root_of
returns-in_err-judge c = passed_on _ _ c.judge.ensures _ c.from_residual.ensures c.in_err-judge.was

pub returns : goal.returns
unfolding root_of
returns c = rw c.header.ensures (accepts _ _ (sym (accepted_by _ _ c.judge.ensures c.in_ok-judge.was)))
