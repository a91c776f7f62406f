use native.Mathlib.Omega.{arith}
use mathlib.Core.Path.{sym, ◌∙◌}
use Rattle.psv0_sections.proofs.Walking.{of_past}
use Rattle.psv0_sections.proofs.Reading.{body_refuses, strings_short, strings_four, indices_short, elements_cut, masks_short, body_read}
use Rattle.psv0_sections.proofs.read_body.Goals as goal

pub returns-in_default : goal.returns-in_default
returns-in_default c = body_refuses _ _ c.refused.ensures (strings_short _ _ _ _ _ _ c.requires (sym c.counted.ensures ∙ c.in_default.is))

pub returns-then-string_bytes-ne0 : goal.returns-then-string_bytes-ne0
returns-then-string_bytes-ne0 c =
    body_refuses _ _ c.refused-then-string_bytes-ne0.ensures
    (strings_four _ _ _ _ _ _ c.requires _ _ (sym c.counted.ensures ∙ c.in-Some.is) c.if-string_bytes-ne0.true)

pub returns-in_default-counted : goal.returns-in_default-counted
returns-in_default-counted c =
    body_refuses _ _ c.refused-in_default-counted.ensures
    (indices_short _ _ _ _ _ _ c.requires _ _ (sym c.counted.ensures ∙ c.in-Some.is) c.if-string_bytes-ne0.false
    (sym c.counted-2.ensures ∙ c.in_default-counted.is))

pub returns-in_default-records : goal.returns-in_default-records
returns-in_default-records c =
    body_refuses _ _ c.refused-in_default-records.ensures
    (elements_cut _ _ _ _ _ _ c.requires _ _ (sym c.counted.ensures ∙ c.in-Some.is) c.if-string_bytes-ne0.false _ _
    (sym c.counted-2.ensures ∙ c.in-Some-counted.is) (sym c.records.ensures ∙ c.in_default-records.is))

pub returns-in_default-past : goal.returns-in_default-past
returns-in_default-past c =
    body_refuses _ _ c.refused-in_default-past.ensures
    (masks_short _ _ _ _ _ _ c.requires _ _ (sym c.counted.ensures ∙ c.in-Some.is) c.if-string_bytes-ne0.false _ _
    (sym c.counted-2.ensures ∙ c.in-Some-counted.is) _ (sym c.records.ensures ∙ c.in-Some-records.is) (sym c.past.ensures ∙ c.in_default-past.is))

pub overflow_add-result : goal.overflow_add-result
overflow_add-result c =
    omega (arith, (of_past _ _ _ _ _ (sym c.counted.ensures ∙ c.in-Some.is)).inside)

pub overflow_add-result-2 : goal.overflow_add-result-2
overflow_add-result-2 c =
    omega (arith, (of_past _ _ _ _ _ (sym c.counted-2.ensures ∙ c.in-Some-counted.is)).inside)

pub returns : goal.returns
returns c =
    body_read _ _ _ _ _ _ c.requires _ _ (sym c.counted.ensures ∙ c.in-Some.is) c.if-string_bytes-ne0.false _ _
    (sym c.counted-2.ensures ∙ c.in-Some-counted.is) _ (sym c.records.ensures ∙ c.in-Some-records.is) _ (sym c.past.ensures ∙ c.in-Some-past.is)
