use native.Mathlib.Omega.{arith}
use Rattle.wire.proofs.Verdicts.{refuses, accepts}
use Rattle.psv0_layout.proofs.Judgements.{stage_15, view_16, geometry_passes, streams_17, fields_pass}
use Rattle.psv0_sections.proofs.judge_fields.Goals as goal
use Rattle.psv0_sections.proofs.judge_fields.Goals.{else-stage-ne2-via-then-stage-ne2+else-byte-ne0, else-stage-ne2-via-else-stage-ne2}

pub returns-then-stage-gt15 : goal.returns-then-stage-gt15
returns-then-stage-gt15 c = refuses _ _ c.refused.ensures (stage_15 _ _ c.byte-stage.ensures.0 c.if-stage-gt15.true)

pub returns-then-byte-gt1 : goal.returns-then-byte-gt1
returns-then-byte-gt1 c =
    refuses _ _ c.refused-then-byte-gt1.ensures
    (view_16 _ _ c.byte-stage.ensures.0 c.if-stage-gt15.false _ c.byte.ensures.0 c.if-byte-gt1.true)

pub returns-then-byte-ne0 : goal.returns-then-byte-ne0
returns-then-byte-ne0 c =
    refuses _ _ c.refused-then-byte-ne0.ensures
    (streams_17 _ _ c.byte-stage.ensures.0 c.if-stage-gt15.false _ c.byte.ensures.0 c.if-byte-gt1.false c.if-stage-ne2.true _
    (omega (arith, c.byte-then-stage-ne2.ensures.0, c.byte-then-stage-ne2-2.ensures.0, c.byte-then-stage-ne2-3.ensures.0)) c.if-byte-ne0.true)

pub returns : goal.returns
returns c = accepts _ _ (elim c.else-stage-ne2.branch [
  | else-stage-ne2-via-then-stage-ne2+else-byte-ne0 w ↦
      fields_pass _ _ c.byte-stage.ensures.0 c.if-stage-gt15.false _ c.byte.ensures.0 c.if-byte-gt1.false w.if-stage-ne2.true _
      (omega (arith, w.byte-then-stage-ne2.ensures.0, w.byte-then-stage-ne2-2.ensures.0, w.byte-then-stage-ne2-3.ensures.0)) w.if-byte-ne0.false
  | else-stage-ne2-via-else-stage-ne2 w ↦
      geometry_passes _ _ c.byte-stage.ensures.0 c.if-stage-gt15.false _ c.byte.ensures.0 c.if-byte-gt1.false w.if-stage-ne2.false
])
