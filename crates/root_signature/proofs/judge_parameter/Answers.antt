use mathlib.Core.Path.{refl}
use Rattle.wire.proofs.Verdicts.{refuses, accepts}
use Rattle.root_signature_layout.proofs.Steps.{read_type, read_data, own_outside, other_type, data_outside, no_table, ranges_outside, ranges_inside}
use Rattle.root_signature.proofs.judge_parameter.Goals as goal

pub returns-then-len-at : goal.returns-then-len-at
returns-then-len-at c = refuses _ _ c.refused.ensures (own_outside _ _ c.u32_at.ensures c.if-len-at.true)

pub returns-then-kind-gt4 : goal.returns-then-kind-gt4
returns-then-kind-gt4 c =
    refuses _ _ c.refused-then-kind-gt4.ensures
    (other_type _ _ c.u32_at.ensures c.if-len-at.false (read_type _ _ c.u32_at.ensures c.u32_at-kind.ensures) c.if-kind-gt4.true)

pub returns-then-len-data : goal.returns-then-len-data
returns-then-len-data c =
    refuses _ _ c.refused-then-len-data.ensures
    (data_outside _ _ c.u32_at.ensures c.if-len-at.false (read_type _ _ c.u32_at.ensures c.u32_at-kind.ensures) c.if-kind-gt4.false c.u32_at-version.ensures (read_data _ _ c.u32_at.ensures c.u32_at-data.ensures) c.data_size.ensures.value c.if-len-data.true)

pub returns-then-kind-ne0 : goal.returns-then-kind-ne0
returns-then-kind-ne0 c =
    accepts _ _ (no_table _ _ c.u32_at.ensures c.if-len-at.false (read_type _ _ c.u32_at.ensures c.u32_at-kind.ensures) c.if-kind-gt4.false c.u32_at-version.ensures (read_data _ _ c.u32_at.ensures c.u32_at-data.ensures) c.data_size.ensures.value c.if-len-data.false c.if-kind-ne0.true)

pub returns-then-len-range_place : goal.returns-then-len-range_place
returns-then-len-range_place c =
    refuses _ _ c.refused-then-len-range_place.ensures
    (ranges_outside _ _ c.u32_at.ensures c.if-len-at.false (read_type _ _ c.u32_at.ensures c.u32_at-kind.ensures) c.if-kind-gt4.false c.u32_at-version.ensures (read_data _ _ c.u32_at.ensures c.u32_at-data.ensures) c.data_size.ensures.value c.if-len-data.false c.if-kind-ne0.false c.u32_at-n.ensures c.u32_at-first.ensures refl (rw c.range_place.ensures.value at c.if-len-range_place.true))

pub returns : goal.returns
returns c =
    accepts _ _ (ranges_inside _ _ c.u32_at.ensures c.if-len-at.false (read_type _ _ c.u32_at.ensures c.u32_at-kind.ensures) c.if-kind-gt4.false c.u32_at-version.ensures (read_data _ _ c.u32_at.ensures c.u32_at-data.ensures) c.data_size.ensures.value c.if-len-data.false c.if-kind-ne0.false c.u32_at-n.ensures c.u32_at-first.ensures refl (rw c.range_place.ensures.value at c.if-len-range_place.false))
