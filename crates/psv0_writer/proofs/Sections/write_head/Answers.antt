use mathlib.Core.Path.{◌∙◌, sym}
use native.Mathlib.Nat.{div-le_self}
use native.Mathlib.Omega.{arith}
use lib.Seq.{length-take-le}
use lib.ListN.{length}
use Rattle.wire.proofs.Stretches.{rest_length, rest_written, written_length_lem}
use Rattle.psv0_writer_layout.proofs.GivenRecords.{resource_size_lem}
use Rattle.psv0_writer_layout.specs.Stretch.{head_length}
use Rattle.psv0_writer_layout.proofs.Sections.{counted_front, counted_length, records_length, head_laid_lem}
use Rattle.psv0_writer.specs.Sections.{given_by}
use Rattle.psv0_writer.proofs.Sections.write_head.Goals as goal

pub slice_bounds-write_counted-end : goal.slice_bounds-write_counted-end
unfolding head_length
slice_bounds-write_counted-end c = omega arith

pub slice_bounds-write_counted-end-2 : goal.slice_bounds-write_counted-end-2
unfolding head_length
slice_bounds-write_counted-end-2 c = sym (length-take-le _ _ (omega arith))

pub overflow_cast-self : goal.overflow_cast-self
unfolding head_length
overflow_cast-self c = omega arith

pub write_counted-requires : goal.write_counted-requires
unfolding head_length
write_counted-requires c = length-take-le _ _ (omega arith)

pub nonzero_div-count : goal.nonzero_div-count
nonzero_div-count c = omega (arith, (resource_size_lem c.args.edition).least)

pub slice_bounds-write_resources-count : goal.slice_bounds-write_resources-count
unfolding head_length
slice_bounds-write_resources-count c =
    let w = counted_front c.args.out.now (length c.args.self.now.runtime.now) c.args.self.now.runtime.now c.write_counted.ensures in
    omega (arith, written_length_lem w (omega arith))

pub slice_bounds-write_resources-start : goal.slice_bounds-write_resources-start
unfolding head_length
slice_bounds-write_resources-start c =
    let w = counted_front c.args.out.now (length c.args.self.now.runtime.now) c.args.self.now.runtime.now c.write_counted.ensures in
    omega (arith, written_length_lem w (omega arith))

pub overflow_cast-count : goal.overflow_cast-count
unfolding head_length
overflow_cast-count c = omega (arith, div-le_self (length c.args.self.now.resources.now) c.resource_size-size.result)

pub overflow_cast-size : goal.overflow_cast-size
overflow_cast-size c = omega (arith, (resource_size_lem c.args.edition).small)

pub write_resources-requires : goal.write_resources-requires
unfolding head_length
write_resources-requires c =
    let w = counted_front c.args.out.now (length c.args.self.now.runtime.now) c.args.self.now.runtime.now c.write_counted.ensures in
    rest_length w (omega arith) ∙ omega arith

pub returns : goal.returns
unfolding head_length
returns c =
    let w = counted_front c.args.out.now (length c.args.self.now.runtime.now) c.args.self.now.runtime.now c.write_counted.ensures in
    let s = c.resource_size-size in
    rest_written w (omega arith) _ c.write_resources.ensures (counted_length _ _ ∙ (omega (arith, records_length s.result c.args.self.now.resources.now)))
    ∙ head_laid_lem c.args.edition (given_by c.args.self.now) s.ensures
