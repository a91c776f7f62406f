-- The rule of the table of names, proved once by a test that is computed over the whole table.
-- Assumes nothing.
use mathlib.Core.Path.{◌≡◌, refl, sym, ap, ◌∙◌}
use mathlib.Core.Bool.{Bool, true, false, ◌&&◌, ◌||◌}
use mathlib.Core.List.{List, [], ◌∷◌}
use Prim.Native.Nat.{ℕ, zero, suc, ◌+◌, ◌<◌}
use lib.ListN.{length, get_or}
use Rattle.std.specs.List.{list_any}
use native.Mathlib.Omega.{arith}
use native.Mathlib.Nat.{add-zero, zero-add, eq-or-lt_of_le, le_of_suc-le-suc}
use mathlib.Core.Logic.{⊎_elim}
use lib.Dec.{eqb, ltb}
use borrow.Author.Tests.{eqb-true, lt-ltb, le-ltb}
use Rattle.wire.specs.Number.{u32_at}
use Rattle.wire.specs.Search.{first_from, first}
use Rattle.wire.proofs.Choices.{both}
use Rattle.constants.specs.Name.{part_names, name_number, is_name, is_known}

-- a test is true at each number below n
every : (ℕ → Bool) → ℕ → Bool
every f zero = true
every f (suc n) = f n && every f n

at : (f : ℕ → Bool) (n k : ℕ) → every f n ≡ true → k < n → f k ≡ true
unfolding every
at f zero k e h = absurd (omega arith)
at f (suc n) k e h =
    let (a, b) = both (f n) (every f n) e in
    ⊎_elim (λ q. rw q a) (λ l. at f n k b l) (eq-or-lt_of_le (le_of_suc-le-suc h))

-- the first name with name k's number is name k
own : ℕ → Bool
own k = eqb (first (is_name (name_number k)) 24) k

-- no name stands twice in the table
pub names_differ : (k : ℕ) → k < 24 → first (is_name (name_number k)) 24 ≡ k
unfolding own every u32_at
names_differ k h = eqb-true _ _ (at own 24 k refl h)

-- ---- a test of the table's rows
any_from : (t : List ℕ → Bool) (l : List (List ℕ)) (p : ℕ → Bool) (i : ℕ) → ((k : ℕ) → k < length l → p (i + k) ≡ t (get_or l k []))
    → list_any t l ≡ ltb (first_from p i (length l)) (i + length l)
any_from t [] p i h = sym (le-ltb i (i + 0) (omega arith))
any_from t (x ∷ l) p i h =
    go (t x) (rw add-zero at (h 0 (omega arith)))
    (any_from t l p (suc i) (λ k g. let e : suc i + k ≡ i + suc k = omega arith in rw e (h (suc k) (omega arith))))
  where
    go : (b : Bool) → p i ≡ b → list_any t l ≡ ltb (first_from p (suc i) (length l)) (suc i + length l)
        → (b || list_any t l) ≡ ltb (first_from p i (suc (length l))) (i + suc (length l))
    go true e later = rw e (sym (lt-ltb i (i + suc (length l)) (omega arith)))
    go false e later = rw e (later ∙ ap (λ (n : ℕ). ltb (first_from p (suc i) (length l)) n) (omega arith))

-- some row has the number x: the name is known
pub any_known : (x : ℕ) → list_any (λ r. eqb (u32_at r 0) x) part_names ≡ is_known x
unfolding is_known
any_known x = any_from (λ r. eqb (u32_at r 0) x) part_names (is_name x) 0 (λ k h. rw zero-add)
