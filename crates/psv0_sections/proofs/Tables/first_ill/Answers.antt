use Rattle.psv0_layout.proofs.References.{decided_plain, decided_first}
use Rattle.utf8.specs.Referred.{passes, first_ill}
use Rattle.psv0_sections.proofs.Tables.first_ill.Goals as goal

pub returns-then-plain_from : goal.returns-then-plain_from
returns-then-plain_from c = λ m u. decided_plain _ _ _ m u (c.plain_from.ensures.0 c.if-plain_from.true)

pub returns : goal.returns
unfolding passes first_ill
returns c = λ m u. decided_first c.args.self.now.strings.now _ _ m u _ c.first_ill.ensures
