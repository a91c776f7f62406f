use mathlib.Core.Path.{ap}
use Prim.Native.Nat.{ℕ, ◌/◌, ◌%◌}
use Rattle.dxil_layout.specs.Program.{header_of}
use Rattle.dxil.proofs.header.Goals as goal

pub returns : goal.returns
unfolding header_of
returns c = λ i.
    record {
      version_major = ap (λ (x : ℕ). x / 16) c.byte_at-version.ensures i;
      version_minor = ap (λ (x : ℕ). x % 16) c.byte_at-version.ensures i;
      stage = c.u16_at.ensures i;
      words = c.u32_at.ensures i;
      bitcode_major = c.byte_at.ensures i;
      bitcode_minor = c.byte_at-2.ensures i;
      bitcode_offset = c.u32_at-2.ensures i;
      bitcode_size = c.u32_at-3.ensures i;
    }
