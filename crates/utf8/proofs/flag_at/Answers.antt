use mathlib.Core.Path.{sym}
use native.Mathlib.Omega.{arith}
use Rattle.utf8.proofs.Marking.{flag_read}
use Rattle.utf8.proofs.Stops.{flag_past}
use Rattle.utf8.proofs.flag_at.Goals as goal

pub returns-then-len-p : goal.returns-then-len-p
returns-then-len-p c = let a = c.args in sym (flag_past a.t.now a.p (omega arith))

pub returns-then-len-p-lt32 : goal.returns-then-len-p-lt32
returns-then-len-p-lt32 c =
    let a = c.args in
    flag_read a.t.now a.p _ _ c.past-o.ensures.0 c.good_to_end.ensures

pub returns : goal.returns
returns c =
    let a = c.args in
    flag_read a.t.now a.p _ _ c.past-o.ensures.0 c.good_by.ensures
