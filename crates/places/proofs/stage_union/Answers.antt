use mathlib.Core.Path.{refl}
use lib.ListN.{length}
use borrow.Author.Tests.{leb-true}
use Rattle.places_layout.proofs.Views.{union_outside, union_read}
use Rattle.places.proofs.Queries.{told_inside, told_outside, passed_outside, union_told}
use Rattle.places.proofs.stage_union.Goals as goal

pub returns-in_err-inside : goal.returns-in_err-inside
returns-in_err-inside c =
    let h = rw c.edition_size.ensures at c.inside.ensures in
    union_outside _ _ _ (told_outside _ _ h c.in_err-inside.was) (passed_outside _ _ h c.from_residual.ensures c.in_err-inside.was)

pub returns : goal.returns
returns c =
    let p = c.args.p.now in
    let h = rw c.edition_size.ensures at c.inside.ensures in
    let t = told_inside _ _ h c.in_ok-inside.was in
    union_read _ _ _ t (union_told p.edition p.runtime (length c.args.b.now) (leb-true _ _ t)) refl
