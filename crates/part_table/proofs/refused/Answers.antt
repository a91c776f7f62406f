use Rattle.wire.specs.Verdict.{verdict_of}
use Rattle.part_table.proofs.refused.Goals as goal

pub returns : goal.returns
unfolding verdict_of
returns c = c.empty.ensures
