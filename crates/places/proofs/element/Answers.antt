use Rattle.wire.proofs.Verdicts.{passed_on}
use native.Mathlib.Omega.{arith}
use Rattle.places_layout.specs.Answers.{element_by}
use Rattle.places.proofs.Queries.{element_long, element_found}
use Rattle.places.proofs.element.Goals as goal

pub returns-in_err-at : goal.returns-in_err-at
unfolding element_by
returns-in_err-at c = passed_on _ _ c.element_place.ensures _ c.from_residual.ensures c.in_err-at.was

pub overflow_add-at : goal.overflow_add-at
overflow_add-at c = record { fits = omega (arith, element_long _ _ _ c.element_place.ensures c.in_ok-at.was) }

pub slice_bounds-element_at-end : goal.slice_bounds-element_at-end
slice_bounds-element_at-end c = element_long _ _ _ c.element_place.ensures c.in_ok-at.was

pub returns : goal.returns
returns c = element_found _ _ _ c.element_place.ensures c.in_ok-at.was _ c.element_at.ensures
