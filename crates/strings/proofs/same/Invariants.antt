use mathlib.Core.Path.{◌≡◌}
use Rattle.wire.specs.Stretch.{same_bytes}
use Rattle.psv0_layout.specs.Reference.{string_at}
use Rattle.strings.proofs.same.Given as goal

-- what is left to compare decides
abbrev pub invariant-loop-i : goal.invariant-loop-i
invariant-loop-i l = same_bytes (string_at l.a l.i) (string_at l.c l.j) ≡ same_bytes (string_at l.a l.o) (string_at l.c l.p)
