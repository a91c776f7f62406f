use borrow.Author.Tests.{le-leb, lt-leb}
use Rattle.places.proofs.later.Goals as goal

pub returns-then-er-lt1 : goal.returns-then-er-lt1
returns-then-er-lt1 c = rw (lt-leb 1 _ c.if-er-lt1.true) c.stretch.ensures

pub returns : goal.returns
returns c = rw (le-leb 1 _ c.if-er-lt1.false) c.stretch-2.ensures
