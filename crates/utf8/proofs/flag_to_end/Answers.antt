use mathlib.Core.Path.{sym}
use native.Mathlib.Omega.{arith}
use Rattle.utf8.proofs.Marking.{flag_read}
use Rattle.utf8.proofs.Stops.{flag_past}
use Rattle.utf8.proofs.flag_to_end.Goals as goal

pub returns-then-t-p : goal.returns-then-t-p
returns-then-t-p c = let a = c.args in sym (flag_past a.t.now a.p (omega arith))

pub returns : goal.returns
returns c =
    let a = c.args in
    flag_read a.t.now a.p _ _ c.past.ensures.0 c.good_to_end.ensures
