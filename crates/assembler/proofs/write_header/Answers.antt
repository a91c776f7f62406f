use mathlib.Core.Path.{refl, ◌∙◌}
use native.Mathlib.Omega.{arith}
use Rattle.wire.specs.Number.{le16, le32}
use Rattle.wire.proofs.Stretches.{none_written, written_copy, written_number, all_written}
use Rattle.part_table_layout.specs.Table.{magic}
use Rattle.assembler_layout.proofs.Sections.{header_is}
use Rattle.assembler.proofs.write_header.Goals as goal

pub returns : goal.returns
unfolding le16 le32
returns c =
    let pre = c.requires in
    let w1 = written_copy (none_written c.args.out.now) 4 (omega arith) magic (omega arith) refl c.copy.ensures in
    let w2 = written_copy w1 20 (omega arith) _ (omega arith) pre.1 c.copy-2.ensures in
    let w3 = written_number w2 (le16 1) 22 refl (omega arith) c.put_u16.ensures in
    let w4 = written_number w3 (le16 0) 24 refl (omega arith) c.put_u16-2.ensures in
    let w5 = written_number w4 (le32 _) 28 refl (omega arith) c.put_u32.ensures in
    let w6 = written_number w5 (le32 _) 32 refl (omega arith) c.put_u32-2.ensures in
    all_written w6 pre.0 ∙ header_is _ _ _
