use native.Mathlib.Omega.{arith}
use mathlib.Core.Logic.{inl, inr}
use Rattle.places_layout.proofs.Views.{no_mask, mask_read}
use Rattle.places.proofs.mask.Goals.{then-p-lt1-via-then-p-lt1, then-p-lt1-via-else-p-lt1+then-m-gt10}
use Rattle.places.proofs.mask.Goals as goal

pub returns-then-p-lt1 : goal.returns-then-p-lt1
returns-then-p-lt1 c =
    no_mask _ _ _ _ (elim c.then-p-lt1.branch [
      | then-p-lt1-via-then-p-lt1 w ↦ inl w.if-p-lt1.true
      | then-p-lt1-via-else-p-lt1+then-m-gt10 w ↦ inr (omega arith)
    ]) c.refused.ensures

pub returns : goal.returns
returns c = mask_read _ _ _ _ c.if-p-lt1.false (omega arith) (rw c.words_before-before.ensures.0 at c.stretch.ensures)
