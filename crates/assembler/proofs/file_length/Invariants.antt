use Prim.Native.Nat.{◌+◌, ◌*◌, ◌≤◌}
use mathlib.Core.Path.{◌≡◌}
use lib.ListN.{length}
use Rattle.assembler_layout.specs.Assembled.{end_before}
use Rattle.assembler_layout.specs.Answer.{sized}
use Rattle.assembler.proofs.file_length.Given as goal

abbrev pub invariant-loop-size : goal.invariant-loop-size
invariant-loop-size l = (l.end ≡ end_before (sized l.sizes) l.size-index) × (l.end ≤ 32 + 4 * length l.sizes + 4294967306 * l.size-index)
