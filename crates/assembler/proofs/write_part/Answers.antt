use Prim.Native.Nat.{ℕ, ◌+◌}
use mathlib.Core.Path.{refl, sym, ap, ◌∙◌}
use native.Mathlib.Nat.{sub-zero}
use native.Mathlib.Omega.{arith}
use lib.ListN.{length, replicate, length-replicate}
use Rattle.wire.specs.Number.{le32}
use Rattle.wire.proofs.Stretches.{none_written, lent_length, written_more, written_copy, written_number, all_written}
use Rattle.assembler_layout.proofs.Sections.{part_is}
use Rattle.assembler.proofs.write_part.Goals as goal

pub returns : goal.returns
unfolding le32
returns c =
    let out = c.args.out.now in
    let filler = c.args.filler in
    let size = c.requires.0 in
    let named = c.requires.1 in
    let w0 = none_written out in
    let zeros = c.fill.ensures.after (λ y e. e) ∙ ap (λ (n : ℕ). replicate n 0) (lent_length w0 filler (omega arith) (omega arith) ∙ sub-zero filler) in
    let w1 = written_more w0 filler (omega arith) (replicate filler 0) zeros (length-replicate filler 0 ∙ sym (sub-zero filler)) in
    let w2 = written_copy w1 (filler + 4) (omega arith) _ (omega arith) (omega arith) c.copy.ensures in
    let w3 = written_number w2 (le32 _) (filler + 8) (omega arith) (omega arith) c.put_u32.ensures in
    let w4 = written_copy w3 (length out) (omega arith) _ (omega arith) (omega arith) c.copy-2.ensures in
    all_written w4 refl ∙ part_is (replicate filler 0) c.args.name.now (le32 c.args.size) c.args.«data».now
