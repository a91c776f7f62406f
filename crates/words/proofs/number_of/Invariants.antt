use Rattle.words.proofs.Digits.{Reading}
use Rattle.words.proofs.number_of.Given as goal

abbrev pub invariant-loop-c : goal.invariant-loop-c
invariant-loop-c l = Reading l.s l.n l.c-index
