use mathlib.Core.Path.{◌≡◌}
use lib.ListN.{take}
use Rattle.psv0_layout.specs.Field.{mask_words_of, sum}
use Rattle.psv0_sections.proofs.words_before.Given as goal

abbrev pub invariant-loop-i : goal.invariant-loop-i
invariant-loop-i l = l.total ≡ sum (take l.i (mask_words_of l.r))
