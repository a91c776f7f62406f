use borrow.Author.Tests.{leb-true}
use Prim.Native.Nat.{◌+◌, ◌≤◌}
use native.Mathlib.Omega.{arith}
use lib.ListN.{length}
use mathlib.Core.Path.{sym, ◌∙◌}
use Rattle.places.proofs.Queries.{told_inside, told_outside, passed_outside, name_fits, name_found, name_ill, name_outside}
use Rattle.places.proofs.string.Goals as goal

pub returns-in_err-inside : goal.returns-in_err-inside
returns-in_err-inside c =
    let h = c.inside.ensures in
    rw (passed_outside _ _ h c.from_residual.ensures c.in_err-inside.was) (name_outside _ _ _ _ (told_outside _ _ h c.in_err-inside.was))

pub overflow_add-start : goal.overflow_add-start
overflow_add-start c = record { fits = omega (arith, leb-true _ _ (told_inside _ _ c.inside.ensures c.in_ok-inside.was)) }

pub slice_bounds-read_string-end : goal.slice_bounds-read_string-end
slice_bounds-read_string-end c = leb-true _ _ (told_inside _ _ c.inside.ensures c.in_ok-inside.was)

pub overflow_add-result : goal.overflow_add-result
overflow_add-result c =
    let a = c.args in
    let h : a.start + a.n ≤ length a.b.now = leb-true _ _ (told_inside _ _ c.inside.ensures c.in_ok-inside.was) in
    record { fits = omega (arith, name_fits a.b.now a.start a.n a.o _ h (sym c.read_string.ensures ∙ c.in-Some.is)) }

pub returns : goal.returns
returns c =
    let t = told_inside _ _ c.inside.ensures c.in_ok-inside.was in
    name_found _ _ _ _ _ (leb-true _ _ t) (sym c.read_string.ensures ∙ c.in-Some.is) t

pub returns-in_default : goal.returns-in_default
returns-in_default c =
    rw c.refused.ensures (name_ill _ _ _ _ (told_inside _ _ c.inside.ensures c.in_ok-inside.was) (sym c.read_string.ensures ∙ c.in_default.is))
