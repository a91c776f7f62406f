use mathlib.Core.Path.{◌≡◌}
use mathlib.Core.List.{◌++◌}
use lib.ListN.{take}
use Rattle.wire.proofs.Stretches.{Written}
use Rattle.assembler_layout.specs.Assembled.{end_before, total, parts_from}
use Rattle.assembler.specs.Parts.{parts_of}
use Rattle.assembler.proofs.Parts.write.Given as goal

abbrev pub invariant-loop-i : goal.invariant-loop-i
invariant-loop-i l =
    (l.end ≡ end_before (parts_of l.self) l.i)
    × ((l.from ≡ total (take l.i l.self.sizes.now)) × Written l.initial.out (take l.initial.end l.initial.out ++ parts_from (parts_of l.self) 0 l.i) l.end l.out)
