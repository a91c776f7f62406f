use borrow.Author.Tests.{leb-true}
use Rattle.places_layout.proofs.Views.{array_found, array_past, array_outside}
use Rattle.places.proofs.Queries.{told_inside, told_outside, passed_outside}
use Rattle.places.proofs.array.Goals as goal

pub returns-in_err-inside : goal.returns-in_err-inside
returns-in_err-inside c =
    let h = c.inside.ensures in
    rw (passed_outside _ _ h c.from_residual.ensures c.in_err-inside.was) (array_outside _ _ _ _ _ (told_outside _ _ h c.in_err-inside.was))

pub returns-then-count-reference : goal.returns-then-count-reference
returns-then-count-reference c =
    let t = told_inside _ _ c.inside.ensures c.in_ok-inside.was in
    rw c.refused.ensures (array_past _ _ _ _ _ t (leb-true _ _ t) c.if-count-reference.true)

pub returns : goal.returns
returns c = let t = told_inside _ _ c.inside.ensures c.in_ok-inside.was in array_found _ _ _ _ _ t (leb-true _ _ t) c.if-count-reference.false
