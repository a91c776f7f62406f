-- Demand 3, second half, for PSV0 data.
-- Assumes nothing.
use Prim.Native.Nat.{ℕ, ◌≤◌}
use mathlib.Core.Path.{◌≡◌}
use mathlib.Core.List.{List}
use lib.ListN.{length}
use borrow.Author.Tests.{le-leb, leb-true}
use Rattle.constants.specs.Edition.{size_of}
use Rattle.wire.specs.Number.{u32_at}
use Rattle.wire.specs.Verdict.{Accepted}
use Rattle.wire.proofs.Verdicts.{check_then, checked, accepted_then}
use Rattle.psv0_layout.specs.Judged.{opened}
use Rattle.psv0_layout.specs.Shown.{Question, answered}
use Rattle.psv0_layout.specs.Widened.{Widening}
use Rattle.psv0_layout.proofs.WiderReading.{KeptJudged, widened_judged}

-- "Further: where an edition's reader accepts a container whose runtime record is at least that edition's size, the same reader
-- accepts every widening of it, as document 01 defines widening, and shows the same of both: the same values and bytes set, and the
-- rest unset in both." The reader is k, the data d, the widening d'; `answered` is what a reader's queries show.
pub record Kept (k : ℕ) (d d' : List ℕ) : Type 0 where
  pub opens : opened k d' ≡ Accepted
  pub shows : (q : Question) → answered k d' q ≡ answered k d q

pub widened : (k : ℕ) (d d' : List ℕ)
    → opened k d ≡ Accepted → size_of k ≤ u32_at d 0 → Widening k d d' → length d' ≤ 16777216 → Kept k d d'
unfolding opened answered
widened k d d' o long w short =
    let (c25, o1) = check_then _ _ _ _ o in
    let (c2, j) = check_then _ _ _ _ o1 in
    let kept : KeptJudged k d d' = widened_judged k d (leb-true _ _ c25) (leb-true _ _ c2) long d' j w short in
    let o' : opened k d' ≡ Accepted =
    accepted_then _ _ (checked _ 25 0 c25) (accepted_then _ _ (checked _ 2 0 (le-leb _ _ short)) kept.judged) in
    record { opens = o'; shows = λ q. rw (o', o) (kept.shows q) }
