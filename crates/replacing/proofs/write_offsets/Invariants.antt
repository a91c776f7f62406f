use Prim.Native.Nat.{suc, ◌*◌}
use Rattle.wire.proofs.Stretches.{Written}
use Rattle.replacing_layout.specs.Replaced.{moved_from}
use Rattle.replacing.proofs.write_offsets.Given as goal

abbrev pub invariant-loop-j : goal.invariant-loop-j
invariant-loop-j l = Written l.initial.out (moved_from l.b l.part.number l.len (suc l.part.number) l.j) (4 * l.j) l.out
