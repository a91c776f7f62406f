use mathlib.Core.Path.{sym, ◌∙◌}
use mathlib.Core.Logic.{inl, inr}
use Rattle.wire.proofs.Verdicts.{refuses, accepts, accepted_by, passed_on}
use Rattle.places_layout.proofs.Calls.{no_element}
use Rattle.places.proofs.Queries.{place_told}
use Rattle.places.proofs.element_place.Goals.{then-p-lt1-via-then-p-lt1, then-p-lt1-via-else-p-lt1+then-p-i}
use Rattle.places.proofs.element_place.Goals as goal

pub returns-then-p-lt1 : goal.returns-then-p-lt1
returns-then-p-lt1 c =
    refuses _ _ c.refused.ensures
    (no_element _ _ _ (elim c.then-p-lt1.branch [
      | then-p-lt1-via-then-p-lt1 w ↦ inl w.if-p-lt1.true
      | then-p-lt1-via-else-p-lt1+then-p-i w ↦ inr w.if-p-i.true
    ]))

pub returns-in_err-inside : goal.returns-in_err-inside
returns-in_err-inside c =
    passed_on _ _ c.inside.ensures _ c.from_residual.ensures c.in_err-inside.was ∙ place_told _ _ _ _ c.if-p-lt1.false c.if-p-i.false c.row_place-at.ensures

pub returns : goal.returns
returns c =
    accepts _ _ (sym (accepted_by _ _ c.inside.ensures c.in_ok-inside.was)) ∙ place_told _ _ _ _ c.if-p-lt1.false c.if-p-i.false c.row_place-at.ensures
