use Rattle.root_signature_layout.proofs.Steps.{parameter_shown, sampler_shown}
use Rattle.root_signature.proofs.item_at.Goals as goal

pub returns-then-i-parameters : goal.returns-then-i-parameters
returns-then-i-parameters c = parameter_shown _ _ c.u32_at-parameters.ensures c.if-i-parameters.true c.parameter.ensures

pub returns : goal.returns
returns c =
    sampler_shown _ _ c.u32_at-parameters.ensures c.if-i-parameters.false c.u32_at.ensures c.sampler.ensures
