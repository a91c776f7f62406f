use borrow.Author.Tests.{lt-ltb, le-ltb}
use Rattle.wire.specs.Verdict.{check}
use Rattle.wire.proofs.Verdicts.{refuses, accepts}
use Rattle.root_signature_layout.specs.Root.{item_there}
use Rattle.root_signature.proofs.judge_there.Goals as goal

pub returns-then-u32_at-i : goal.returns-then-u32_at-i
unfolding item_there check
returns-then-u32_at-i c = refuses _ _ c.refused.ensures (rw (le-ltb _ _ (rw (c.u32_at.ensures, c.u32_at-2.ensures) at c.if-u32_at-i.true)))

pub returns : goal.returns
unfolding item_there check
returns c = accepts _ _ (rw (lt-ltb _ _ (rw (c.u32_at.ensures, c.u32_at-2.ensures) at c.if-u32_at-i.false)))
