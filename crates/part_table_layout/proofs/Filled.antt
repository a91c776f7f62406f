-- Laws of `filled`: an entry more, the entries below the count and those from it on.
-- Assumes nothing.
use Prim.Native.Nat.{ℕ, zero, suc, ◌+◌, ◌≤◌, ◌<◌}
use mathlib.Core.Path.{◌≡◌, refl, ◌∙◌}
use mathlib.Core.List.{List}
use mathlib.Core.Logic.{⊎_elim}
use native.Mathlib.Nat.{le_of_suc-le-suc, eq-or-lt_of_le}
use native.Mathlib.Numerals.{add-one}
use native.Mathlib.Omega.{arith}
use lib.ListN.{length, get_or, set, take, replicate, length-set}
use Rattle.std.proofs.lemmas.List.{get_or-take, length-take-le}
use lib.Seq.{get_or-set_same, get_or-set_other}
use Rattle.part_table_layout.specs.Table.{filled}

module _ (f : ℕ → ℕ) where
  pub filled_more : (k : ℕ) {x : ℕ} → x ≡ f k → set (filled f k) k x ≡ filled f (k + 1)
  filled_more k h = rw (add-one, h)

  pub filled_all : {i n : ℕ} {l : List ℕ} → i ≤ n → n ≤ i → l ≡ filled f i → l ≡ filled f n
  filled_all {i} {n} h g e = let q : i ≡ n = omega arith in rw q at e

  pub filled_length : (n : ℕ) → length (filled f n) ≡ 96
  filled_length zero = refl
  filled_length (suc n) = simp (length-set, filled_length n)

  pub filled_below : (n k : ℕ) → n ≤ 96 → k < n → get_or (filled f n) k 0 ≡ f k
  filled_below zero k l h = absurd (omega arith)
  filled_below (suc n) k l h =
      ⊎_elim (λ e. rw e (get_or-set_same (filled f n) n (f n) 0 (rw filled_length (omega arith))))
      (λ g. get_or-set_other (filled f n) n k (f n) 0 (λ e. omega arith) ∙ filled_below n k (omega arith) g)
      (eq-or-lt_of_le (le_of_suc-le-suc h))

-- the first n entries alone
module _ (f : ℕ → ℕ) (n : ℕ) where
  pub taken_length : n ≤ 96 → length (take n (filled f n)) ≡ n
  taken_length l = length-take-le n (filled f n) (rw filled_length l)

  pub taken_below : (k : ℕ) → n ≤ 96 → k < n → get_or (take n (filled f n)) k 0 ≡ f k
  taken_below k l h = get_or-take n (filled f n) k 0 h ∙ filled_below f n k l h

pub filled_agree : (f g : ℕ → ℕ) (n : ℕ) → ((k : ℕ) → k < n → f k ≡ g k) → filled f n ≡ filled g n
filled_agree f g zero h = refl
filled_agree f g (suc n) h = rw (filled_agree f g n (λ k l. h k (omega arith)), h n (omega arith))

zero_entry : (m k : ℕ) → ◌≡◌ {A = ℕ} (get_or (replicate m 0) k 0) 0
zero_entry zero k = refl
zero_entry (suc m) zero = refl
zero_entry (suc m) (suc k) = zero_entry m k

module _ (f : ℕ → ℕ) where
  pub filled_past : (n k : ℕ) → n ≤ k → get_or (filled f n) k 0 ≡ 0
  filled_past zero k h = zero_entry 96 k
  filled_past (suc n) k h = get_or-set_other (filled f n) n k (f n) 0 (λ e. omega arith) ∙ filled_past n k (omega arith)
