use Prim.Native.Nat.{◌+◌}
use mathlib.Core.Path.{◌≡◌, sym, ◌∙◌}
use mathlib.Core.Bool.{false}
use native.Mathlib.Omega.{arith}
use lib.Dec.{leb}
use lib.ListN.{length}
use borrow.Author.Tests.{le-leb, lt-leb}
use Rattle.wire.proofs.Verdicts.{refuses, accepts, checked, check_fails}
use Rattle.places.proofs.Numbers.{left_after, past_end}
use Rattle.places.proofs.inside.Goals.{then-len-at-via-then-len-at, then-len-at-via-else-len-at+then-len-at-2}
use Rattle.places.proofs.inside.Goals as goal

pub returns-then-len-at : goal.returns-then-len-at
returns-then-len-at c =
    let a = c.args in
    let h : leb (a.at + a.n) (length a.b.now) ≡ false = elim c.then-len-at.branch [
      | then-len-at-via-then-len-at w ↦ sym (past_end _ _ _ (omega arith))
      | then-len-at-via-else-len-at+then-len-at-2 w ↦ sym (left_after _ _ _ (omega arith)) ∙ lt-leb _ _ (omega arith)
    ] in
    refuses _ _ c.refused.ensures (sym (check_fails _ 29 0 h))

pub returns : goal.returns
returns c =
    accepts _ _ (sym (checked _ 29 0 (sym (left_after c.args.at c.args.n (length c.args.b.now) (omega arith)) ∙ le-leb _ _ (omega arith))))
