-- Demand 3, first half, for PSV0 data.
-- Assumes nothing.
use Prim.Native.Nat.{ℕ, ◌≤◌}
use mathlib.Core.Path.{◌≡◌}
use mathlib.Core.List.{List}
use Rattle.wire.specs.Verdict.{Accepted, Refused}
use Rattle.wire.proofs.Verdicts.{refused_on, accepted_back}
use Rattle.psv0_layout.specs.Judged.{opened}
use Rattle.psv0_layout.specs.Shown.{unset, Question, answered}
use Rattle.psv0_layout.proofs.EditionOrder.{opened_⊑, shown_newer}

-- "Whatever the bytes, take any two reader editions from 0 to 3. If the older refuses to open the bytes, the newer refuses with the
-- same number and place. If the newer opens them, so does the older, and every value the older shows set, the newer shows set and the
-- same." The bytes are d, the older reader i, the newer j; `answered` is what a reader's queries show.
pub record Newer (i j : ℕ) (d : List ℕ) : Type 0 where
  pub refuses : (n p : ℕ) → opened i d ≡ Refused n p → opened j d ≡ Refused n p
  pub opens : opened j d ≡ Accepted → opened i d ≡ Accepted
  pub shows : opened j d ≡ Accepted → (q : Question) → (answered i d q ≡ unset → ⊥) → answered j d q ≡ answered i d q

pub newer : (i j : ℕ) (d : List ℕ) → i ≤ j → j ≤ 3 → Newer i j d
unfolding answered
newer i j d h l =
    let older : opened j d ≡ Accepted → opened i d ≡ Accepted = accepted_back (opened_⊑ i j d h l) in
    record {
      refuses = λ n p. refused_on n p (opened_⊑ i j d h l);
      opens = older;
      shows = λ e q u. rw (e, older e) (shown_newer i j d h q (rw (older e) at u));
    }
