use native.Mathlib.Omega.{arith}
use Rattle.settings_reader.proofs.Steps.{group_fits, group_large}
use Rattle.settings_reader.proofs.group.Goals as goal

pub returns-in-Ok : goal.returns-in-Ok
returns-in-Ok c = let (l, e) = c.in-Ok.ensures in group_fits _ _ _ (omega arith) (omega arith)

pub returns-in-Err : goal.returns-in-Err
returns-in-Err c = let h = c.in-Err.ensures in group_large _ _ (rw (c.from.ensures, c.from-2.ensures) at h)
