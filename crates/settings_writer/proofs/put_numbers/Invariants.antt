use Rattle.settings_writer.proofs.Puts.{Putting}
use Rattle.settings_writer.proofs.put_numbers.Given as goal

abbrev pub invariant-loop-n : goal.invariant-loop-n
invariant-loop-n l = Putting l.initial.out l.from l.numbers l.out l.at l.n-index
