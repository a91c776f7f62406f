use Prim.Native.Nat.{◌+◌, ◌-◌, ◌*◌}
use Rattle.replacing_layout.proofs.Stretches.{part_length}
use mathlib.Core.Path.{◌∙◌}
use native.Mathlib.Omega.{arith}
use Rattle.wire.proofs.Stretches.{lent_length}
use Rattle.part_table_layout.specs.Table.{count_of}
use Rattle.replacing_layout.proofs.Writing.{head_written, offsets_written, part_written, all_laid}
use Rattle.replacing.proofs.write.Goals as goal

pub slice_bounds-write_offsets-count : goal.slice_bounds-write_offsets-count
unfolding count_of
slice_bounds-write_offsets-count c = omega arith

pub slice_bounds-write_offsets-start : goal.slice_bounds-write_offsets-start
unfolding count_of
slice_bounds-write_offsets-start c = omega arith

pub slice_bounds-write_offsets-end : goal.slice_bounds-write_offsets-end
unfolding count_of
slice_bounds-write_offsets-end c = omega arith

pub write_offsets-requires : goal.write_offsets-requires
unfolding count_of
write_offsets-requires c =
    let w = head_written c.args.out.now c.args.new.now c.requires.0 c.requires.1 c.write_head.ensures in
    (c.requires.0, lent_length w _ (omega arith) (omega arith) ∙ omega arith)

pub slice_bounds-write_part-count : goal.slice_bounds-write_part-count
unfolding count_of
slice_bounds-write_part-count c = omega arith

pub slice_bounds-write_part-start : goal.slice_bounds-write_part-start
unfolding count_of
slice_bounds-write_part-start c = omega arith

pub slice_bounds-write_part-count-2 : goal.slice_bounds-write_part-count-2
unfolding count_of
slice_bounds-write_part-count-2 c = omega arith

pub slice_bounds-write_part-start-2 : goal.slice_bounds-write_part-start-2
unfolding count_of
slice_bounds-write_part-start-2 c = omega arith

pub write_part-requires : goal.write_part-requires
unfolding count_of
write_part-requires c =
    let o = c.args.out.now in
    let b = c.args.b.now in
    let new = c.args.new.now in
    let e = c.u32_at.ensures in
    let w1 = head_written o new c.requires.0 c.requires.1 c.write_head.ensures in
    let w2 = offsets_written o new c.requires.0 c.requires.1 e w1 c.write_offsets.ensures in
    let k = part_length b (32 + 4 * c.u32_at.result) (c.args.part.offset + 4 - (32 + 4 * c.u32_at.result)) (omega arith) in
    (lent_length w2 _ (omega arith) (omega arith) ∙ rw k (omega arith), omega arith)

pub slice_bounds-copy-count : goal.slice_bounds-copy-count
unfolding count_of
slice_bounds-copy-count c = omega arith

pub slice_bounds-copy-start : goal.slice_bounds-copy-start
unfolding count_of
slice_bounds-copy-start c = omega arith

pub shape_of-out : goal.shape_of-out
unfolding count_of
shape_of-out c = omega arith

pub returns : goal.returns
returns c =
    let o = c.args.out.now in
    let new = c.args.new.now in
    let e = c.u32_at.ensures in
    let w1 = head_written o new c.requires.0 c.requires.1 c.write_head.ensures in
    let w2 = offsets_written o new c.requires.0 c.requires.1 e w1 c.write_offsets.ensures in
    let w3 = part_written o new c.requires.0 c.requires.1 e w2 c.write_part.ensures in
    all_laid o new c.requires.0 c.requires.1 e w3 c.copy.ensures
