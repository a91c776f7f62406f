use Rattle.root_signature_layout.specs.Root.{sampler_of}
use Rattle.root_signature.proofs.sampler.Goals as goal

pub returns : goal.returns
unfolding sampler_of
returns c =
    rw (
      c.single_of-3.ensures,
      c.single_of-2.ensures,
      c.single_of.ensures,
      c.u32_at-13.ensures,
      c.u32_at-12.ensures,
      c.u32_at-11.ensures,
      c.u32_at-10.ensures,
      c.u32_at-9.ensures,
      c.u32_at-8.ensures,
      c.u32_at-7.ensures,
      c.u32_at-6.ensures,
      c.u32_at-5.ensures,
      c.u32_at-4.ensures,
      c.u32_at-3.ensures,
      c.u32_at-2.ensures,
      c.u32_at.ensures,
    )
