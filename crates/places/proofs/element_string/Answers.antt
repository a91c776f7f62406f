use Rattle.places.proofs.Queries.{string_read, no_string_read}
use Rattle.places.proofs.element_string.Goals as goal

pub returns-in_err-at : goal.returns-in_err-at
returns-in_err-at c = no_string_read _ _ _ c.element_place.ensures c.from_residual.ensures c.in_err-at.was

pub returns : goal.returns
returns c = string_read _ _ _ c.element_place.ensures c.in_ok-at.was _ (rw c.u32_at-o.ensures at c.string.ensures)
