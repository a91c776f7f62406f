use mathlib.Core.Path.{refl}
use native.Mathlib.Omega.{arith}
use Rattle.wire.proofs.Stretches.{none_written, written_length_lem}
use Rattle.part_table_layout.specs.Table.{offset_bytes}
use Rattle.assembler_layout.specs.Assembled.{end_before}
use Rattle.assembler_layout.specs.Answer.{sized}
use Rattle.assembler_layout.proofs.Sections.{StartFits, start_fits, end_next, offset_more, all_offsets}
use Rattle.assembler.proofs.write_offsets.Goals as goal

pub loop-i-init : goal.loop-i-init
unfolding end_before offset_bytes
loop-i-init c = (refl, none_written _)

pub round_up-start-requires : goal.round_up-start-requires
round_up-start-requires c = let f : StartFits (sized c.args.sizes.now) c.loop-i.i c.loop-i.end = start_fits (sized _) c.requires.1 c.loop-i-test.true c.loop-i.invariant.0 in omega arith

pub overflow_cast-start : goal.overflow_cast-start
overflow_cast-start c = let f : StartFits (sized c.args.sizes.now) c.loop-i.i c.loop-i.end = start_fits (sized _) c.requires.1 c.loop-i-test.true c.loop-i.invariant.0 in omega (arith, c.round_up-start.ensures)

pub overflow_add-end-in-loop-i : goal.overflow_add-end-in-loop-i
overflow_add-end-in-loop-i c = let f : StartFits (sized c.args.sizes.now) c.loop-i.i c.loop-i.end = start_fits (sized _) c.requires.1 c.loop-i-test.true c.loop-i.invariant.0 in omega (arith, c.round_up-start.ensures)

pub overflow_add-end-in-loop-i-2 : goal.overflow_add-end-in-loop-i-2
overflow_add-end-in-loop-i-2 c = let f : StartFits (sized c.args.sizes.now) c.loop-i.i c.loop-i.end = start_fits (sized _) c.requires.1 c.loop-i-test.true c.loop-i.invariant.0 in omega (arith, c.round_up-start.ensures)

pub loop-i-preserved : goal.loop-i-preserved
loop-i-preserved c =
    let l = c.loop-i in
    let g = sized c.args.sizes.now in
    let room = c.requires.0 in
    let e = c.round_up-start.ensures in
    let f = l.invariant.0 in (
      rw (e, f) (end_next g l.i),
      offset_more g room l.i l.invariant.1 c.loop-i-test.true (rw f at e) c.put_u32.ensures,
    )

pub shape_of-out : goal.shape_of-out
shape_of-out c =
    let room = c.requires.0 in
    written_length_lem c.loop-i.invariant.1 (omega arith)

pub returns : goal.returns
returns c =
    all_offsets (sized _) c.requires.0 c.loop-i.i c.loop-i.invariant.1 (omega arith)
