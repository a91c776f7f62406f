use Rattle.signature_layout.specs.Named.{NamesFrom}
use Rattle.signature.proofs.least_name.Given as goal

abbrev pub invariant-loop-i : goal.invariant-loop-i
invariant-loop-i l = NamesFrom l.d l.least l.i
