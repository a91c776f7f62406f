-- Laws of `first`: a loop that counts up to n and stops where a test is true returns it; what holds below it and at it.
-- Assumes nothing.
use mathlib.Core.Path.{◌≡◌, refl, sym, ◌∙◌, ap}
use mathlib.Core.Bool.{Bool, true, false, true≢false}
use Prim.Native.Nat.{ℕ, zero, suc, ◌+◌, ◌-◌, ◌≤◌, ◌<◌}
use native.Mathlib.Numerals.{add-one}
use native.Mathlib.Nat.{sub-zero, eq-or-lt_of_le}
use mathlib.Core.Logic.{⊎_elim}
use native.Mathlib.Omega.{arith}
use lib.Dec.{ltb}
use borrow.Author.Tests.{ltb-true, ltb-false}
use Rattle.wire.specs.Choice.{choose}
use Rattle.wire.specs.Search.{first_from, first}

-- a loop has come to i, and the test was false below it
abbrev pub Searched : (ℕ → Bool) → ℕ → ℕ → Type 0
Searched p n i = (i ≤ n) × (first_from p i (n - i) ≡ first p n)

module _ (p : ℕ → Bool) (n : ℕ) where
  pub begin : Searched p n 0
  begin = (omega arith, ap (first_from p 0) (sub-zero n))

  module _ {i : ℕ} where
    step : i < n → n - i ≡ suc (n - suc i)
    step h = omega arith

    pub more : Searched p n i → i < n → p i ≡ false → Searched p n (i + 1)
    more s h e = rw add-one (omega arith, rw (step h, e) at s.1)

    pub found : Searched p n i → i < n → p i ≡ true → i ≡ first p n
    found s h e = rw (step h, e) at s.1

    pub none : Searched p n i → n ≤ i → i ≡ first p n
    none s h = let e : n - i ≡ 0 = omega arith in rw e at s.1

-- two tests that agree have one first
from_agree : (p q : ℕ → Bool) (i m : ℕ) → ((k : ℕ) → k < i + m → p k ≡ q k) → first_from p i m ≡ first_from q i m
from_agree p q i zero h = refl
from_agree p q i (suc m) h =
    let e = h i (omega arith) in
    let r = from_agree p q (suc i) m (λ k l. h k (omega arith)) in
    rw (e, r)

pub first_agree : (p q : ℕ → Bool) (n : ℕ) → ((k : ℕ) → k < n → p k ≡ q k) → first p n ≡ first q n
first_agree p q n h = from_agree p q 0 n (λ k l. h k (omega arith))

-- the first is at most the bound
pick_le : (t : Bool) (a b c : ℕ) → a ≤ c → b ≤ c → choose t a b ≤ c
pick_le true a b c h g = h
pick_le false a b c h g = g

from_le : (p : ℕ → Bool) (i m : ℕ) → first_from p i m ≤ i + m
from_le p i zero = omega arith
from_le p i (suc m) =
    let h = from_le p (suc i) m in
    pick_le (p i) i (first_from p (suc i) m) (i + suc m) (omega arith) (omega arith)

pub first_le : (p : ℕ → Bool) (n : ℕ) → first p n ≤ n
first_le p n = let h = from_le p 0 n in omega arith

-- the test is false below the first
below_case : (p : ℕ → Bool) (i k r : ℕ) (t : Bool) → p i ≡ t → i ≤ k → k < choose t i r → (i < k → k < r → p k ≡ false) → p k ≡ false
below_case p i k r true e h g f = absurd (omega arith)
below_case p i k r false e h g f = ⊎_elim (λ q. rw q at e) (λ q. f q g) (eq-or-lt_of_le h)

from_below : (p : ℕ → Bool) (m i k : ℕ) → i ≤ k → k < first_from p i m → p k ≡ false
from_below p zero i k h g = absurd (omega arith)
from_below p (suc m) i k h g =
    below_case p i k (first_from p (suc i) m) (p i) refl h g (λ q. from_below p m (suc i) k (omega arith))

pub first_below : (p : ℕ → Bool) (n k : ℕ) → k < first p n → p k ≡ false
first_below p n k h = from_below p n 0 k (omega arith) h

-- the test is true at the first, where there is one
at_case : (p : ℕ → Bool) (i m r : ℕ) (t : Bool) → p i ≡ t → choose t i r < i + suc m → (r < suc i + m → p r ≡ true) → p (choose t i r) ≡ true
at_case p i m r true e h f = e
at_case p i m r false e h f = f (omega arith)

from_at : (p : ℕ → Bool) (m i : ℕ) → first_from p i m < i + m → p (first_from p i m) ≡ true
from_at p zero i h = absurd (omega arith)
from_at p (suc m) i h = at_case p i m (first_from p (suc i) m) (p i) refl h (from_at p m (suc i))

pub first_at : (p : ℕ → Bool) (n : ℕ) → first p n < n → p (first p n) ≡ true
first_at p n h = from_at p n 0 (omega arith)

-- where the test is true at k and nowhere below, the first is k; where it is nowhere true, the bound
module _ (p : ℕ → Bool) (n k : ℕ) (below : (j : ℕ) → j < k → p j ≡ false) where
  not_less : k ≤ n → k ≤ first p n
  not_less h = go (ltb (first p n) k) refl
    where
      go : (t : Bool) → ltb (first p n) k ≡ t → k ≤ first p n
      go true e =
          let l = ltb-true (first p n) k e in
          absurd (true≢false (sym (first_at p n (omega arith)) ∙ below (first p n) l))
      go false e = ltb-false (first p n) k e

  pub first_is : k < n → p k ≡ true → first p n ≡ k
  first_is h e = go (ltb k (first p n)) refl
    where
      go : (t : Bool) → ltb k (first p n) ≡ t → first p n ≡ k
      go true q = absurd (true≢false (sym e ∙ first_below p n k (ltb-true k (first p n) q)))
      go false q =
          let l = ltb-false k (first p n) q in
          let g = not_less (omega arith) in
          omega arith

pub first_none : (p : ℕ → Bool) (n : ℕ) → ((j : ℕ) → j < n → p j ≡ false) → first p n ≡ n
first_none p n h =
    let l = not_less p n n h (omega arith) in
    let g = first_le p n in
    omega arith
