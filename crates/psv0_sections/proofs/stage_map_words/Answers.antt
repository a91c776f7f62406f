use mathlib.Core.Path.{◌∙◌}
use Rattle.psv0_layout.proofs.Masks.{stage_none, stage_some}
use Rattle.psv0_sections.proofs.stage_map_words.Goals as goal

pub returns-then-byte-stage : goal.returns-then-byte-stage
returns-then-byte-stage c =
    let a = c.args in
    stage_none a.r.now a.stage a.outputs a.inputs _ c.byte.ensures.0 c.if-byte-stage.true

pub returns : goal.returns
returns c =
    let a = c.args in
    c.map_words.ensures
    ∙ stage_some a.r.now a.stage a.outputs a.inputs _ c.byte.ensures.0 c.if-byte-stage.false _ _
    c.byte-2.ensures.0 c.byte-3.ensures.0
