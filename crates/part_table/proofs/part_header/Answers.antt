use mathlib.Core.Path.{sym}
use Rattle.wire.proofs.Verdicts.{refuses, accepts}
use Rattle.part_table_layout.proofs.Judged.{offset_is, early, no_header, size_is, no_data, fits}
use Rattle.part_table.proofs.part_header.Goals as goal
use Rattle.part_table.proofs.part_header.Goals.{then-at-end-via-then-at-end, then-at-end-via-else-at-end+then-len-at}

pub returns-then-at-end : goal.returns-then-at-end
returns-then-at-end c =
    let hs = offset_is _ _ c.u32_at-offset.ensures in
    let he = c.requires.1 in
    refuses _ _ c.refused.ensures
    (elim c.then-at-end.branch [ then-at-end-via-then-at-end w ↦ sym (early _ _ hs he w.if-at-end.true) | then-at-end-via-else-at-end+then-len-at w ↦ sym (no_header _ _ hs he w.if-at-end.false w.if-len-at.true) ])

pub returns-then-len-at-2 : goal.returns-then-len-at-2
returns-then-len-at-2 c =
    let hs = offset_is _ _ c.u32_at-offset.ensures in
    refuses _ _ c.refused-then-len-at-2.ensures (sym (no_data _ _ hs c.requires.1 c.u32_at-size.ensures c.if-at-end.false c.if-len-at.false c.if-len-at-2.true))

pub returns : goal.returns
returns c =
    let hs = offset_is _ _ c.u32_at-offset.ensures in
    let end = c.requires.1 in
    let hz = c.u32_at-size.ensures in
    rw (hs, size_is _ _ hs end hz) (accepts _ _ (sym (fits _ _ hs end hz c.if-at-end.false c.if-len-at.false c.if-len-at-2.false)))
