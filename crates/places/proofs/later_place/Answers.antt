use borrow.Author.Tests.{le-leb, lt-leb}
use Rattle.places.proofs.later_place.Goals as goal

pub returns-then-er-lt1 : goal.returns-then-er-lt1
returns-then-er-lt1 c = simp (lt-leb 1 _ c.if-er-lt1.true)

pub returns : goal.returns
returns c = rw (le-leb 1 _ c.if-er-lt1.false) c.moved_place.ensures
