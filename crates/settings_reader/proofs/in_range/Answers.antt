use Rattle.settings_layout.specs.Rules.{in_range}
use Rattle.std.proofs.Common.{arith}
use Rattle.std.proofs.lemmas.Bool.Decides.{nat_tests}
use Rattle.settings_reader.proofs.in_range.Goals as goal

pub returns-in-1 : goal.returns-in-1
unfolding in_range
returns-in-1 c = rw c.in-1.is

pub returns-in-3 : goal.returns-in-3
unfolding in_range
returns-in-3 c = rw c.in-3.is

pub returns-in_default : goal.returns-in_default
unfolding in_range
returns-in_default c = grind (arith, nat_tests)
