use Prim.Native.Nat.{suc, ◌-◌}
use native.Mathlib.Omega.{arith}
use Rattle.wire.proofs.Stretches.{none_written, written_length_lem, all_written}
use mathlib.Core.Path.{◌≡◌}
use Rattle.part_table_layout.specs.Table.{count_of, offset_bytes}
use Rattle.replacing_layout.proofs.Writing.{later, offset_more}
use Rattle.replacing.proofs.write_offsets.Goals as goal

pub loop-j-init : goal.loop-j-init
unfolding offset_bytes
loop-j-init c = none_written _

pub overflow_sub-offset : goal.overflow_sub-offset
overflow_sub-offset c = let f = later c.requires.0 c.loop-j.j (omega arith) c.u32_at-offset.ensures in omega arith

pub overflow_cast-offset-in-loop-j : goal.overflow_cast-offset-in-loop-j
overflow_cast-offset-in-loop-j c = let f = later c.requires.0 c.loop-j.j (omega arith) c.u32_at-offset.ensures in omega arith

pub loop-j-preserved : goal.loop-j-preserved
loop-j-preserved c =
    offset_more c.requires.0 c.requires.1 c.loop-j.j c.loop-j.invariant (omega arith) c.u32_at-offset.ensures c.put_u32.ensures

pub shape_of-out : goal.shape_of-out
shape_of-out c =
    let room = c.requires.1 in
    written_length_lem c.loop-j.invariant (omega arith)

pub returns : goal.returns
returns c =
    let room = c.requires.1 in
    let e : c.loop-j.j ≡ count_of c.args.b.now - suc c.args.part.number = omega arith in
    rw (← e) (all_written c.loop-j.invariant (omega arith))
