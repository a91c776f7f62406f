use mathlib.Core.Path.{sym, ◌∙◌}
use native.Mathlib.Omega.{arith}
use Rattle.psv0_sections.proofs.Walking.{small_of, product_fits, counted_short, bytes_short, counted_past}
use Rattle.psv0_sections.proofs.Cursor.counted.Goals as goal

pub overflow_mul-count : goal.overflow_mul-count
overflow_mul-count c = record { fits = product_fits _ _ (small_of c.in_ok-count.was c.field.ensures.1) (omega arith) }

pub returns-in_err-count : goal.returns-in_err-count
returns-in_err-count c = c.from_residual.ensures ∙ counted_short _ _ _ (sym c.field.ensures.0 ∙ c.in_err-count.was)

pub returns-in_err-next : goal.returns-in_err-next
returns-in_err-next c =
    c.from_residual-in_err-next.ensures
    ∙ bytes_short _ _ _ _ _ (sym c.field.ensures.0 ∙ c.in_ok-count.was) (sym c.past.ensures ∙ c.in_err-next.was)

pub returns : goal.returns
returns c = counted_past _ _ _ _ _ (sym c.field.ensures.0 ∙ c.in_ok-count.was) _ (sym c.past.ensures ∙ c.in_ok-next.was)
