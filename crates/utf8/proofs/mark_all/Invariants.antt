use Prim.Native.Nat.{◌+◌, ◌*◌, ◌/◌, ◌≤◌, min}
use mathlib.Core.Path.{◌≡◌}
use lib.ListN.{length}
use Rattle.utf8.specs.Marks.{flag, Marked}
use Rattle.utf8.proofs.mark_all.Given as goal

abbrev pub invariant-loop-j : goal.invariant-loop-j
invariant-loop-j l =
    (length l.marks ≡ length l.initial.marks)
    × (l.j ≤ min ((length l.t + 255) / 256) (length l.initial.marks))
    × (l.next ≡ flag l.t (l.j * 256))
    × Marked l.t l.marks l.j (min ((length l.t + 255) / 256) (length l.initial.marks))

abbrev pub decreases-loop-j : goal.decreases-loop-j
decreases-loop-j l = l.j
