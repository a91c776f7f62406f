-- A newer reading refuses wherever an older one does, with the same number and place, and shows what the older one shows.
-- Assumes nothing.
use Prim.Native.Nat.{ℕ, ◌≤◌}
use mathlib.Core.Path.{◌≡◌, refl, sym}
use mathlib.Core.Bool.{Bool, true, false, true≢false}
use mathlib.Core.Logic.{inr}
use mathlib.Core.List.{List}
use native.Mathlib.Omega.{arith}
use native.Mathlib.Nat.{le_trans}
use lib.Dec.{leb}
use borrow.Author.Tests.{le-leb, leb-true}
use Rattle.wire.proofs.Verdicts.{◌⊑◌, then_⊑, from_⊑}
use Rattle.psv0_layout.specs.Judged.{judged_at, opened}
use Rattle.psv0_layout.specs.Layout.{seen, sections, edition_read_of}
use Rattle.psv0_layout.specs.Shown.{Value, unset, Question, needs, value, set_if, shown_at, shown}

-- a value that is set by one test is the same by a second that is true wherever the first is
set_on : (s t : Bool) (x : Value) → (s ≡ true → t ≡ true) → (set_if s x ≡ unset → ⊥) → set_if t x ≡ set_if s x
set_on true true x m u = refl
set_on true false x m u = absurd (true≢false (sym (m refl)))
set_on false t x m u = absurd (u refl)

-- ---- readings at edition read a and b
module _ (d : List ℕ) {a b : ℕ} (h : a ≤ b) where
  pub judged_⊑ : judged_at a d ⊑ judged_at b d
  unfolding judged_at
  judged_⊑ = then_⊑ _ (from_⊑ 1 h (then_⊑ _ (then_⊑ _ (then_⊑ _ (from_⊑ 3 h (inr refl))))))

  pub shown_at_newer : (q : Question) → (shown_at a d q ≡ unset → ⊥) → shown_at b d q ≡ shown_at a d q
  unfolding shown_at
  shown_at_newer q u =
      set_on (leb (needs q) a) (leb (needs q) b) (value q (seen (needs q) (sections d)))
      (λ t. le-leb (needs q) b (le_trans (leb-true (needs q) a t) h)) u

-- ---- readers i and j
module _ (i j : ℕ) (d : List ℕ) (h : i ≤ j) where
  pub read_newer : edition_read_of i d ≤ edition_read_of j d
  read_newer = omega arith

  pub opened_⊑ : j ≤ 3 → opened i d ⊑ opened j d
  unfolding opened
  opened_⊑ l =
      let li : i ≤ 3 = omega arith in
      simp (le-leb i 3 li, le-leb j 3 l) (then_⊑ _ (then_⊑ _ (judged_⊑ d read_newer)))

  -- whether or not they open the data
  pub shown_newer : (q : Question) → (shown i d q ≡ unset → ⊥) → shown j d q ≡ shown i d q
  shown_newer = shown_at_newer d read_newer
