use Prim.Native.Nat.{◌+◌, ◌-◌, ◌*◌}
use mathlib.Core.Path.{◌≡◌, refl}
use native.Mathlib.Omega.{arith}
use lib.ListN.{length-set}
use Rattle.utf8.proofs.Marking.{marked_begin, marked_back, marked_later, mark_first}
use Rattle.utf8.proofs.mark_all.Goals as goal

pub loop-j-init : goal.loop-j-init
loop-j-init c =
    (refl, omega arith, c.flag_to_end-next.ensures, rw c.min-end.ensures (marked_begin _ _ _))

pub mark_at-m-requires : goal.mark_at-m-requires
mark_at-m-requires c =
    let l = c.loop-j in
    let e : (l.j - 1) * 256 + 256 ≡ l.j * 256 = omega arith in
    (omega arith, rw e l.invariant.2)

pub loop-j-preserved : goal.loop-j-preserved
loop-j-preserved c =
    let l = c.loop-j in
    let q = c.mark_at-m.ensures in
    (simp length-set l.invariant.0, omega arith, mark_first _ _ _ q, marked_back _ _ _ l.j _ _ l.invariant.3 (omega arith) (omega arith) q)

pub shape_of-marks : goal.shape_of-marks
shape_of-marks c = c.loop-j.invariant.0

pub returns : goal.returns
returns c =
    let l = c.loop-j in
    (l.invariant.0, marked_later _ _ _ _ _ (rw (← l.invariant.0) at l.invariant.3) (omega arith))
