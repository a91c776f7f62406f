use mathlib.Core.Path.{sym, ◌∙◌}
use native.Mathlib.Omega.{arith}
use Rattle.psv0_sections.proofs.Walking.{small_of, product_fits, table_none, table_short, table_cut, table_over, table_whole}
use Rattle.psv0_sections.proofs.Cursor.records.Goals as goal

pub returns-then-n-eq0 : goal.returns-then-n-eq0
returns-then-n-eq0 c = table_none _ _ _ c.if-n-eq0.true

pub returns-in_err-stride : goal.returns-in_err-stride
returns-in_err-stride c = c.from_residual.ensures ∙ table_short _ _ _ c.if-n-eq0.false (sym c.field.ensures.0 ∙ c.in_err-stride.was)

pub returns-then-stride-ne0 : goal.returns-then-stride-ne0
returns-then-stride-ne0 c = table_cut _ _ _ _ _ c.if-n-eq0.false (sym c.field.ensures.0 ∙ c.in_ok-stride.was) c.then-stride-ne0.either

pub overflow_mul-n : goal.overflow_mul-n
overflow_mul-n c = record { fits = product_fits _ _ (omega arith) (small_of c.in_ok-stride.was c.field.ensures.1) }

pub returns-in_err-next : goal.returns-in_err-next
returns-in_err-next c =
    c.from_residual-in_err-next.ensures
    ∙ table_over _ _ _ _ _ c.if-n-eq0.false (sym c.field.ensures.0 ∙ c.in_ok-stride.was) c.if-stride-ne0.false c.if-stride-lt16.false
    (sym c.past.ensures ∙ c.in_err-next.was)

pub returns : goal.returns
returns c =
    table_whole _ _ _ _ _ c.if-n-eq0.false (sym c.field.ensures.0 ∙ c.in_ok-stride.was) c.if-stride-ne0.false c.if-stride-lt16.false _
    (sym c.past.ensures ∙ c.in_ok-next.was)
