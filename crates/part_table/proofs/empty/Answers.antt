use Rattle.wire.proofs.Verdicts.{under_verdict}
use Rattle.part_table.proofs.empty.Goals as goal

pub returns : goal.returns
returns c = rw (under_verdict _)
