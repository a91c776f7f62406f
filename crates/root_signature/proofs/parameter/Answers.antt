use Rattle.root_signature_layout.proofs.Steps.{read_type, read_visibility, read_data, a_table, some_constants, a_descriptor}
use Rattle.root_signature.proofs.parameter.Goals as goal

pub returns-then-kind-eq0 : goal.returns-then-kind-eq0
returns-then-kind-eq0 c =
    a_table _ _ (read_type _ _ c.u32_at.ensures c.u32_at-kind.ensures) (read_visibility _ _ c.u32_at.ensures c.u32_at-visibility.ensures)
    (read_data _ _ c.u32_at.ensures c.u32_at-data.ensures) c.u32_at-first.ensures c.u32_at-second.ensures c.if-kind-eq0.true

pub returns-then-kind-eq1 : goal.returns-then-kind-eq1
returns-then-kind-eq1 c =
    some_constants _ _ (read_type _ _ c.u32_at.ensures c.u32_at-kind.ensures) (read_visibility _ _ c.u32_at.ensures c.u32_at-visibility.ensures)
    (read_data _ _ c.u32_at.ensures c.u32_at-data.ensures) c.u32_at-first.ensures c.u32_at-second.ensures c.if-kind-eq0.false c.u32_at-third.ensures
    c.if-kind-eq1.true

pub returns : goal.returns
returns c =
    a_descriptor _ _ (read_type _ _ c.u32_at.ensures c.u32_at-kind.ensures) (read_visibility _ _ c.u32_at.ensures c.u32_at-visibility.ensures)
    (read_data _ _ c.u32_at.ensures c.u32_at-data.ensures) c.u32_at-first.ensures c.u32_at-second.ensures c.if-kind-eq0.false c.u32_at-third.ensures
    c.if-kind-eq1.false c.u32_at-2.ensures c.field_in_11.ensures
