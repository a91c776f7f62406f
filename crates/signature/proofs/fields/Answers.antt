use Rattle.signature_layout.specs.Signature.{fields_of}
use Rattle.signature.proofs.fields.Goals as goal

pub returns : goal.returns
unfolding fields_of
returns c = λ i.
    record {
      stream = c.u32_at.ensures i;
      name_offset = c.u32_at-2.ensures i;
      index = c.u32_at-3.ensures i;
      system_value = c.u32_at-4.ensures i;
      component_type = c.u32_at-5.ensures i;
      register_number = c.u32_at-6.ensures i;
      mask = c.byte_at.ensures i;
      exclusive_mask = c.byte_at-2.ensures i;
      precision = c.u32_at-7.ensures i;
    }
