-- Laws of sums and counts.
-- Assumes nothing.
use mathlib.Core.Path.{◌≡◌, refl}
use mathlib.Core.Bool.{Bool, true, false}
use mathlib.Core.Logic.{⊎_elim}
use Prim.Native.Nat.{ℕ, zero, suc, ◌+◌, ◌-◌, ◌*◌, ◌/◌, ◌≤◌, ◌<◌}
use native.Mathlib.Nat.{le_of_suc-le-suc, eq-or-lt_of_le, mul-suc, suc-mul}
use native.Mathlib.Omega.{arith}
use Rattle.wire.specs.Sum.{sum_below, count_below}

pub sum_agree : (f g : ℕ → ℕ) (n : ℕ) → ((k : ℕ) → k < n → f k ≡ g k) → sum_below f n ≡ sum_below g n
unfolding sum_below
sum_agree f g zero h = refl
sum_agree f g (suc n) h =
    let r = sum_agree f g n (λ k l. h k (omega arith)) in
    let e = h n (omega arith) in
    omega arith

-- ---- 0 + 1 + .. below n
pub sum_begin : (f : ℕ → ℕ) → sum_below f 0 ≡ 0
unfolding sum_below
sum_begin f = refl

pub sum_more : (f : ℕ → ℕ) (n : ℕ) → sum_below f (suc n) ≡ sum_below f n + f n
unfolding sum_below
sum_more f n = refl

pub sum_grows : (f : ℕ → ℕ) (m n : ℕ) → m ≤ n → sum_below f m ≤ sum_below f n
sum_grows f m zero h = let e : m ≡ 0 = omega arith in rw e (omega arith)
sum_grows f m (suc n) h =
    ⊎_elim (λ e. rw e (omega arith))
    (λ l. let r = sum_grows f m n (le_of_suc-le-suc l) in let s = sum_more f n in omega arith)
    (eq-or-lt_of_le h)

doubled : (n : ℕ) → 2 * sum_below (λ k. k) (suc n) ≡ suc n * n
unfolding sum_below
doubled zero = refl
doubled (suc n) =
    let r = doubled n in
    let e = suc-mul (suc n) (suc n) in
    let d = mul-suc (suc n) n in
    omega arith

pub triangle : (n : ℕ) → sum_below (λ k. k) n ≡ n * (n - 1) / 2
triangle zero = sum_begin (λ k. k)
triangle (suc n) =
    let r = doubled n in
    let e : suc n - 1 ≡ n = omega arith in
    rw e (omega arith)

-- ---- counts
pub count_agree : (p q : ℕ → Bool) (n : ℕ) → ((k : ℕ) → k < n → p k ≡ q k) → count_below p n ≡ count_below q n
unfolding count_below
count_agree p q n h = sum_agree _ _ n (λ k l. let e = h k l in rw e)

pub count_begin : (p : ℕ → Bool) → count_below p 0 ≡ 0
unfolding count_below sum_below
count_begin p = refl

pub count_hit : (p : ℕ → Bool) (n : ℕ) → p n ≡ true → count_below p (suc n) ≡ count_below p n + 1
unfolding count_below sum_below
count_hit p n e = rw e

pub count_miss : (p : ℕ → Bool) (n : ℕ) → p n ≡ false → count_below p (suc n) ≡ count_below p n
unfolding count_below sum_below
count_miss p n e = rw e (omega arith)

pub count_none : (p : ℕ → Bool) (n : ℕ) → ((k : ℕ) → k < n → p k ≡ false) → count_below p n ≡ 0
count_none p zero h = count_begin p
count_none p (suc n) h =
    let r = count_none p n (λ k l. h k (omega arith)) in
    let e = count_miss p n (h n (omega arith)) in
    omega arith

module _ (p : ℕ → Bool) where
  -- a count grows by one number at most by one
  step : (n : ℕ) → (count_below p n ≤ count_below p (suc n)) × (count_below p (suc n) ≤ count_below p n + 1)
  step n = go (p n) refl
    where
      go : (t : Bool) → p n ≡ t → (count_below p n ≤ count_below p (suc n)) × (count_below p (suc n) ≤ count_below p n + 1)
      go true e = let q = count_hit p n e in (omega arith, omega arith)
      go false e = let q = count_miss p n e in (omega arith, omega arith)

  pub count_le : (n : ℕ) → count_below p n ≤ n
  count_le zero = let e = count_begin p in omega arith
  count_le (suc n) = let r = count_le n in let s = (step n).1 in omega arith

  pub count_grows : (n m : ℕ) → n ≤ m → count_below p n ≤ count_below p m
  count_grows n zero h = let e : n ≡ 0 = omega arith in rw e (omega arith)
  count_grows n (suc m) h =
      ⊎_elim (λ e. rw e (omega arith))
      (λ l. let r = count_grows n m (le_of_suc-le-suc l) in let s = (step m).0 in omega arith)
      (eq-or-lt_of_le h)

  -- one more past a number that passes
  pub count_past : (j k : ℕ) → j < k → p j ≡ true → count_below p j < count_below p k
  count_past j k h e =
      let g = count_grows (suc j) k h in
      let s = count_hit p j e in
      omega arith
