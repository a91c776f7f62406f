use Prim.Native.Nat.{◌*◌}
use mathlib.Core.Path.{◌≡◌}
use Rattle.wire.proofs.Stretches.{Written}
use Rattle.assembler_layout.specs.Assembled.{end_before, offsets_from}
use Rattle.assembler_layout.specs.Answer.{sized}
use Rattle.assembler.proofs.write_offsets.Given as goal

abbrev pub invariant-loop-i : goal.invariant-loop-i
invariant-loop-i l = (l.end ≡ end_before (sized l.sizes) l.i) × Written l.initial.out (offsets_from (sized l.sizes) 0 l.i) (4 * l.i) l.out
