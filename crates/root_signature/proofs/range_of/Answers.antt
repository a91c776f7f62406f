use Rattle.root_signature_layout.specs.Root.{range_of}
use Rattle.root_signature.proofs.range_of.Goals as goal

pub returns : goal.returns
unfolding range_of
returns c =
    rw (
      c.u32_at-6.ensures,
      c.by_version.ensures.value,
      c.field_in_11.ensures,
      c.u32_at-5.ensures,
      c.u32_at-4.ensures,
      c.u32_at-3.ensures,
      c.u32_at-2.ensures,
      c.u32_at.ensures,
    )
