use borrow.Author.Tests.{le-leb, lt-leb}
use Rattle.constants.proofs.edition_of.Goals as goal

pub returns-then-size : goal.returns-then-size
returns-then-size c = simp (le-leb _ _ c.if-size.true)

pub returns-then-size-2 : goal.returns-then-size-2
returns-then-size-2 c = simp (lt-leb _ _ c.if-size.false, le-leb _ _ c.if-size-2.true)

pub returns-then-size-3 : goal.returns-then-size-3
returns-then-size-3 c = simp (lt-leb _ _ c.if-size.false, lt-leb _ _ c.if-size-2.false, le-leb _ _ c.if-size-3.true)

pub returns : goal.returns
returns c = simp (lt-leb _ _ c.if-size.false, lt-leb _ _ c.if-size-2.false, lt-leb _ _ c.if-size-3.false)
