use Rattle.qollqamir.proofs.Crossing.{no_part_refused, no_part_opened}
use Rattle.qollqamir.proofs.no_part.Goals as goal

pub returns-in-Err : goal.returns-in-Err
returns-in-Err c = no_part_refused _ _ c.open.ensures c.in-Err.is

pub returns-in-Ok : goal.returns-in-Ok
returns-in-Ok c = no_part_opened _ _ c.open.ensures c.in-Ok.is
