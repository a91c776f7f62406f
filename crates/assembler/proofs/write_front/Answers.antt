use Rattle.assembler_layout.specs.Assembled.{start_of}
use Rattle.assembler_layout.specs.Answer.{sized, front_bytes}
use mathlib.Core.Path.{refl, ◌∙◌}
use native.Mathlib.Omega.{arith}
use lib.ListN.{length}
use Rattle.wire.proofs.Stretches.{none_written, written_more, all_written}
use Rattle.part_table_layout.proofs.Laid.{offsets_length}
use Rattle.assembler_layout.proofs.Sections.{header_length, table_inside}
use Rattle.assembler.proofs.write_front.Goals as goal

pub overflow_cast-sizes : goal.overflow_cast-sizes
overflow_cast-sizes c =
    let short = c.requires.1.1 in
    omega (arith, table_inside (sized c.args.sizes.now))

pub returns : goal.returns
unfolding front_bytes
returns c =
    let g = sized c.args.sizes.now in
    let room = c.requires.0 in
    let w1 = written_more (none_written c.args.out.now) 32 (omega arith) _ c.write_header.ensures (header_length _ _ _ c.requires.1.0) in
    let w2 = written_more w1 (length c.args.out.now) (omega arith) _ c.write_offsets.ensures (offsets_length (start_of g) 0 _ ∙ omega arith) in
    all_written w2 refl
