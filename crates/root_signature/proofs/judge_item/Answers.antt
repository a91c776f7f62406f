use mathlib.Core.Path.{◌∙◌}
use Rattle.wire.proofs.Verdicts.{refuses, accepts}
use Rattle.root_signature_layout.proofs.Steps.{parameter_decides, sampler_outside, sampler_inside}
use Rattle.root_signature.proofs.judge_item.Goals as goal

pub returns-then-i-parameters : goal.returns-then-i-parameters
returns-then-i-parameters c =
    c.judge_parameter.ensures ∙ rw (parameter_decides _ _ c.u32_at-parameters.ensures c.if-i-parameters.true)

pub returns-then-d-at : goal.returns-then-d-at
returns-then-d-at c =
    refuses _ _ c.refused.ensures (sampler_outside _ _ c.u32_at-parameters.ensures c.if-i-parameters.false c.u32_at.ensures c.if-d-at.true)

pub returns : goal.returns
returns c =
    accepts _ _ (sampler_inside _ _ c.u32_at-parameters.ensures c.if-i-parameters.false c.u32_at.ensures c.if-d-at.false)
