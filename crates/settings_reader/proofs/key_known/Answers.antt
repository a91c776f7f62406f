use Rattle.settings_layout.specs.Rules.{key_known}
use Rattle.std.proofs.Common.{arith}
use Rattle.std.proofs.lemmas.Bool.Decides.{nat_tests}
use Rattle.settings_reader.proofs.key_known.Goals as goal

pub returns-then-key-ge1 : goal.returns-then-key-ge1
unfolding key_known
returns-then-key-ge1 c = grind (arith, nat_tests)

pub returns-else-key-ge1 : goal.returns-else-key-ge1
unfolding key_known
returns-else-key-ge1 c = grind (arith, nat_tests)
