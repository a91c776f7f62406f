-- Demand 3, for whole containers.
-- Assumes nothing.
use Prim.Native.Nat.{ℕ, ◌≤◌}
use mathlib.Core.Path.{◌≡◌}
use mathlib.Core.List.{List}
use native.Mathlib.Omega.{arith}
use borrow.Author.Tests.{le-leb, leb-true}
use Rattle.constants.specs.Edition.{size_of}
use Rattle.wire.specs.Number.{u32_at}
use Rattle.wire.specs.Verdict.{Accepted, Refused}
use Rattle.wire.proofs.Verdicts.{◌⊑◌, then_⊑, refused_on, accepted_back}
use Rattle.psv0_layout.specs.Shown.{unset, Question}
use Rattle.psv0_layout.proofs.EditionOrder.{judged_⊑, read_newer, shown_newer}
use Rattle.psv0_layout.proofs.WiderReading.{KeptJudged, widened_judged}
use Rattle.container_layout.specs.Container.{psv_of, before_psv, container_judged, container_answered}
use Rattle.container_layout.specs.Widened.{WiderContainer}
use Rattle.container_layout.proofs.Containers.{psv_short, Before, before_told, before_is, opened_told, opened_is, before_again, wider_parts, psv_wider}

-- "Whatever the bytes, take any two reader editions from 0 to 3. If the older refuses to open the bytes, the newer refuses with the
-- same number and place. If the newer opens them, so does the older, and every value the older shows set, the newer shows set and the
-- same." The bytes are b, the older reader i, the newer j; `container_answered` is what a reader's queries show.
pub record EditionsAgree (i j : ℕ) (b : List ℕ) : Type 0 where
  pub refuses : (n p : ℕ) → container_judged i b ≡ Refused n p → container_judged j b ≡ Refused n p
  pub opens : container_judged j b ≡ Accepted → container_judged i b ≡ Accepted
  pub shows : container_judged j b ≡ Accepted
      → (q : Question) → (container_answered i b q ≡ unset → ⊥) → container_answered j b q ≡ container_answered i b q

before_same : (i j : ℕ) (b : List ℕ) → i ≤ 3 → j ≤ 3 → before_psv i b ≡ before_psv j b
unfolding before_psv
before_same i j b h l = simp (le-leb i 3 h, le-leb j 3 l)

container_⊑ : (i j : ℕ) (b : List ℕ) → i ≤ j → j ≤ 3 → container_judged i b ⊑ container_judged j b
unfolding container_judged
container_⊑ i j b h l =
    rw (before_same i j b (omega arith) l) (then_⊑ (before_psv j b) (judged_⊑ (psv_of b) (read_newer i j (psv_of b) h)))

pub editions_agree : (i j : ℕ) (b : List ℕ) → i ≤ j → j ≤ 3 → EditionsAgree i j b
unfolding container_answered
editions_agree i j b h l =
    let r = container_⊑ i j b h l in
    record {
      refuses = λ n p e. refused_on n p r e;
      opens = λ e. accepted_back r e;
      shows = λ e q u. rw (e, accepted_back r e) (shown_newer i j (psv_of b) h q (rw (accepted_back r e) at u));
    }

-- "Further: where an edition's reader accepts a container whose runtime record is at least that edition's size, the same reader
-- accepts every widening of it, as document 01 defines widening, and shows the same of both: the same values and bytes set, and the
-- rest unset in both." The reader is k, the container b, the widening b'.
pub record WideningKept (k : ℕ) (b b' : List ℕ) : Type 0 where
  pub opens : container_judged k b' ≡ Accepted
  pub shows : (q : Question) → container_answered k b' q ≡ container_answered k b q

pub widening_kept : (k : ℕ) (b b' : List ℕ)
    → container_judged k b ≡ Accepted → size_of k ≤ u32_at (psv_of b) 0 → WiderContainer k b b' → WideningKept k b b'
unfolding container_answered
widening_kept k b b' o long w =
    let (f, j) = opened_told k b o in
    let p : Before k b = before_told k b f in
    let kept : KeptJudged k (psv_of b) (psv_of b') =
    widened_judged k (psv_of b) (leb-true _ _ p.edition) (psv_short b p.table) long (psv_of b') j
    (psv_wider k b b' w p.validation) (psv_short b' w.passes) in
    let f' : Before k b' = before_again b b' (wider_parts k b b' w) k k p.edition p in
    let o' : container_judged k b' ≡ Accepted = opened_is k b' (before_is k b' f') kept.judged in
    record { opens = o'; shows = λ q. rw (o', o) (kept.shows q) }
