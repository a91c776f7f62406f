use Rattle.std.specs.Prelude.{Some}
use mathlib.Core.Path.{ap, ◌∙◌}
use native.Mathlib.Omega.{arith}
use Rattle.psv0_layout.specs.Answers.{resource_of}
use Rattle.psv0_layout.proofs.Records.{resource_early, resource_late}
use Rattle.places.proofs.resource_at.Goals as goal

pub returns : goal.returns
unfolding resource_of
returns c =
    let er = c.args.er in
    let r = c.args.r.now in
    let h = c.requires in
    λ i.
    record {
      binding_type = (ap Some c.u32_at.ensures ∙ resource_early er r 0 (omega arith) h) i;
      space = (ap Some c.u32_at-2.ensures ∙ resource_early er r 1 (omega arith) h) i;
      lower_bound = (ap Some c.u32_at-3.ensures ∙ resource_early er r 2 (omega arith) h) i;
      upper_bound = (ap Some c.u32_at-4.ensures ∙ resource_early er r 3 (omega arith) h) i;
      kind = (c.late_field.ensures ∙ resource_late er r 4 (omega arith) (omega arith) h) i;
      flags = (c.late_field-2.ensures ∙ resource_late er r 5 (omega arith) (omega arith) h) i;
    }
