use mathlib.Core.Path.{sym, ◌∙◌}
use Rattle.psv0_sections.proofs.Reading.{head_refuses, size_short, size_refused, runtime_short, runtime_read}
use Rattle.psv0_sections.proofs.read_head.Goals as goal

pub returns-in_default : goal.returns-in_default
returns-in_default c = head_refuses _ c.refused.ensures (size_short _ (sym c.field.ensures.0 ∙ c.in_default.is))

pub returns-then-size-ne0 : goal.returns-then-size-ne0
returns-then-size-ne0 c =
    head_refuses _ c.refused-then-size-ne0.ensures (size_refused _ _ _ (sym c.field.ensures.0 ∙ c.in-Some.is) c.then-size-ne0.either)

pub returns-in_default-counted : goal.returns-in_default-counted
returns-in_default-counted c =
    head_refuses _ c.refused-in_default-counted.ensures
    (runtime_short _ _ _ (sym c.field.ensures.0 ∙ c.in-Some.is) c.if-size-ne0.false c.if-size-lt24.false (sym c.counted.ensures ∙ c.in_default-counted.is))

pub read_resources-requires : goal.read_resources-requires
read_resources-requires c =
    runtime_read _ _ _ (sym c.field.ensures.0 ∙ c.in-Some.is) c.if-size-ne0.false c.if-size-lt24.false _ _ (sym c.counted.ensures ∙ c.in-Some-counted.is)
