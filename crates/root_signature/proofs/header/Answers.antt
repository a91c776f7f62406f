use Rattle.root_signature_layout.specs.Root.{header_of}
use Rattle.root_signature.proofs.header.Goals as goal

pub returns : goal.returns
unfolding header_of
returns c =
    λ i. record {
      version = c.u32_at.ensures i;
      parameters = c.u32_at-2.ensures i;
      samplers = c.u32_at-3.ensures i;
      flags = c.u32_at-4.ensures i;
    }
