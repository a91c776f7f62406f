use native.Mathlib.Omega.{arith}
use Rattle.places.proofs.Queries.{element_long, array_read, no_array_read}
use Rattle.places.proofs.element_array.Goals as goal

pub returns-in_err-at : goal.returns-in_err-at
returns-in_err-at c = no_array_read _ _ _ c.element_place.ensures c.from_residual.ensures c.in_err-at.was

pub overflow_add-at : goal.overflow_add-at
overflow_add-at c = record { fits = omega (arith, element_long _ _ _ c.element_place.ensures c.in_ok-at.was) }

pub overflow_add-at-2 : goal.overflow_add-at-2
overflow_add-at-2 c = record { fits = omega (arith, element_long _ _ _ c.element_place.ensures c.in_ok-at.was) }

pub returns : goal.returns
returns c = array_read _ _ _ c.element_place.ensures c.in_ok-at.was _ _ _ c.u32_at-reference.ensures c.byte_at-rows.ensures c.array.ensures
