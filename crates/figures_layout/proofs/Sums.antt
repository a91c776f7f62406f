-- Laws of sums that stay below a greatest number, and of tables of counts.
-- Assumes nothing.
use Prim.Native.Nat.{ℕ, zero, suc, ◌+◌, ◌-◌, min, ◌<◌, ◌≤◌}
use lib.Dec.{leb}
use borrow.Author.Tests.{le-leb, leb-true, leb-false}
use mathlib.Core.Path.{◌≡◌, refl, ap₂}
use mathlib.Core.Bool.{Bool, true, false}
use mathlib.Core.List.{List, [], ◌∷◌}
use native.Mathlib.Omega.{arith}
use lib.ListN.{get_or, set}
use Rattle.wire.specs.Choice.{choose}
use Rattle.figures_layout.specs.Figures.{most, sum_up_to, plus, table, sums}

-- ---- sums that cannot wrap
pub sum_is : (m a b : ℕ) → a + b ≤ m → sum_up_to m a b ≡ a + b
sum_is m a b h = rw (le-leb b (m - a) (omega arith))

pub sum_none : (m a : ℕ) → sum_up_to m a 0 ≡ a
sum_none m a = rw (le-leb 0 (m - a) (omega arith)) (omega arith)

pub sum_most : (m a b : ℕ) → sum_up_to m (min a m) (min b m) ≡ min (a + b) m
sum_most m a b = go (leb (min b m) (m - min a m)) refl
  where
    go : (t : Bool) → leb (min b m) (m - min a m) ≡ t → choose t (min a m + min b m) m ≡ min (a + b) m
    go true e = let h : min b m ≤ m - min a m = leb-true _ _ e in omega arith
    go false e = let h : m - min a m < min b m = leb-false _ _ e in omega arith

-- ---- tables
pub table_same : (f g : ℕ → ℕ) (n : ℕ) → ((k : ℕ) → f k ≡ g k) → table f n ≡ table g n
unfolding table
table_same f g zero h = refl
table_same f g (suc n) h = ap₂ ◌∷◌ (h 0) (table_same (λ k. f (suc k)) (λ k. g (suc k)) n (λ k. h (suc k)))

pub table_at : (f : ℕ → ℕ) (n k : ℕ) → k < n → get_or (table f n) k 0 ≡ f k
unfolding table
table_at f zero k h = absurd (omega arith)
table_at f (suc n) zero h = refl
table_at f (suc n) (suc k) h = table_at (λ i. f (suc i)) n k (omega arith)

pub table_sums : (f g s : ℕ → ℕ) (n : ℕ) → ((k : ℕ) → plus (f k) (g k) ≡ s k) → sums (table f n) (table g n) ≡ table s n
unfolding table sums
table_sums f g s zero h = refl
table_sums f g s (suc n) h = ap₂ ◌∷◌ (h 0) (table_sums (λ k. f (suc k)) (λ k. g (suc k)) (λ k. s (suc k)) n (λ k. h (suc k)))

-- ---- a table of which no count or one is raised
pub sums_below : (l : List ℕ) (g : ℕ → ℕ) (n : ℕ) → ((k : ℕ) → k < n → g k ≡ 0) → sums l (table g n) ≡ l
unfolding sums table
sums_below [] g zero h = refl
sums_below [] g (suc n) h = refl
sums_below (a ∷ l) g zero h = refl
sums_below (a ∷ l) g (suc n) h =
    ap₂ ◌∷◌ (rw (h 0 (omega arith)) (sum_none most a)) (sums_below l (λ k. g (suc k)) n (λ k b. h (suc k) (omega arith)))

pub sums_one : (l : List ℕ) (g : ℕ → ℕ) (n i : ℕ) → i < n → g i ≡ 1 → ((k : ℕ) → (k ≡ i → ⊥) → g k ≡ 0)
    → sums l (table g n) ≡ set l i (plus (get_or l i 0) 1)
unfolding sums table
sums_one l g zero i b e h = absurd (omega arith)
sums_one [] g (suc n) zero b e h = refl
sums_one [] g (suc n) (suc i) b e h = refl
sums_one (a ∷ l) g (suc n) zero b e h = ap₂ ◌∷◌ (rw e) (sums_below l (λ k. g (suc k)) n (λ k v. h (suc k) (λ q. omega arith)))
sums_one (a ∷ l) g (suc n) (suc i) b e h =
    ap₂ ◌∷◌ (rw (h 0 (λ q. omega arith)) (sum_none most a)) (sums_one l (λ k. g (suc k)) n i (omega arith) e (λ k f. h (suc k) (λ q. f (omega arith))))
