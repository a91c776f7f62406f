use mathlib.Core.Path.{◌∙◌, sym}
use native.Mathlib.Omega.{arith}
use lib.Seq.{length-take-le}
use lib.ListN.{length}
use Rattle.wire.proofs.Stretches.{rest_copied, written_length_lem}
use Rattle.psv0_writer_layout.specs.Stretch.{body_length}
use Rattle.psv0_writer_layout.proofs.Sections.{counted_front, tables_written, elements_written, body_laid_lem}
use Rattle.psv0_writer.specs.Sections.{given_by}
use Rattle.psv0_writer.proofs.Sections.write_body.Goals as goal

pub overflow_add-indices_end-2 : goal.overflow_add-indices_end-2
unfolding body_length
overflow_add-indices_end-2 c = omega arith

pub overflow_add-elements_end : goal.overflow_add-elements_end
unfolding body_length
overflow_add-elements_end c = omega arith

pub overflow_add-elements_end-2 : goal.overflow_add-elements_end-2
unfolding body_length
overflow_add-elements_end-2 c = omega arith

pub slice_bounds-write_counted-end : goal.slice_bounds-write_counted-end
unfolding body_length
slice_bounds-write_counted-end c = omega arith

pub slice_bounds-write_counted-end-2 : goal.slice_bounds-write_counted-end-2
unfolding body_length
slice_bounds-write_counted-end-2 c = sym (length-take-le _ _ (omega arith))

pub overflow_cast-self : goal.overflow_cast-self
unfolding body_length
overflow_cast-self c = omega arith

pub write_counted-requires : goal.write_counted-requires
unfolding body_length
write_counted-requires c = length-take-le _ _ (omega arith)

pub slice_bounds-write_counted-end-3 : goal.slice_bounds-write_counted-end-3
unfolding body_length
slice_bounds-write_counted-end-3 c =
    let w = counted_front c.args.out.now (length c.args.self.now.strings.now) c.args.self.now.strings.now c.write_counted.ensures in
    omega (arith, written_length_lem w (omega arith))

pub slice_bounds-write_records-end : goal.slice_bounds-write_records-end
unfolding body_length
slice_bounds-write_records-end c =
    let w = tables_written c.args.out.now c.args.self.now.strings.now c.args.self.now.indices.now c.write_counted.ensures c.write_counted-2.ensures in
    omega (arith, written_length_lem w (omega arith))

pub slice_bounds-copy-count : goal.slice_bounds-copy-count
unfolding body_length
slice_bounds-copy-count c =
    let w =
    elements_written c.args.out.now c.args.self.now.strings.now c.args.self.now.indices.now c.write_counted.ensures c.write_counted-2.ensures
    c.args.self.now.elements.now c.field_length.ensures c.write_records.ensures in
    omega (arith, written_length_lem w (omega arith))

pub slice_bounds-copy-start : goal.slice_bounds-copy-start
unfolding body_length
slice_bounds-copy-start c =
    let w =
    elements_written c.args.out.now c.args.self.now.strings.now c.args.self.now.indices.now c.write_counted.ensures c.write_counted-2.ensures
    c.args.self.now.elements.now c.field_length.ensures c.write_records.ensures in
    omega (arith, written_length_lem w (omega arith))

pub shape_of-out : goal.shape_of-out
unfolding body_length
shape_of-out c =
    let w =
    elements_written c.args.out.now c.args.self.now.strings.now c.args.self.now.indices.now c.write_counted.ensures c.write_counted-2.ensures
    c.args.self.now.elements.now c.field_length.ensures c.write_records.ensures in
    omega (arith, written_length_lem w (omega arith))

pub returns : goal.returns
unfolding body_length
returns c =
    let w =
    elements_written c.args.out.now c.args.self.now.strings.now c.args.self.now.indices.now c.write_counted.ensures c.write_counted-2.ensures
    c.args.self.now.elements.now c.field_length.ensures c.write_records.ensures in
    rest_copied w (omega arith) _ (omega arith) c.copy.ensures
    ∙ body_laid_lem (given_by c.args.self.now)
