use borrow.Author.Tests.{leb-true}
use Rattle.places_layout.proofs.Views.{stretch_inside, stretch_outside}
use Rattle.places.proofs.Queries.{told_inside, told_outside, passed_outside}
use Rattle.places.proofs.stretch.Goals as goal

pub returns-in_err-inside : goal.returns-in_err-inside
returns-in_err-inside c =
    let h = c.inside.ensures in
    rw (passed_outside _ _ h c.from_residual.ensures c.in_err-inside.was) (stretch_outside _ _ _ (told_outside _ _ h c.in_err-inside.was))

pub returns : goal.returns
returns c = let t = told_inside _ _ c.inside.ensures c.in_ok-inside.was in stretch_inside _ _ _ t (leb-true _ _ t)
