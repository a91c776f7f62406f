-- Laws of the editions' sizes.
-- Assumes nothing.
use mathlib.Core.Path.{◌≡◌, refl}
use mathlib.Core.Bool.{Bool, true, false}
use mathlib.Core.List.{List, [], ◌∷◌}
use Prim.Native.Nat.{ℕ, zero, suc, ◌≤◌, ◌<◌, min}
use native.Mathlib.Nat.{le_trans, le_refl}
use native.Mathlib.Decide.{le_ind}
use native.Mathlib.Omega.{arith}
use lib.Dec.{leb}
use lib.ListN.{length, get_or}
use borrow.Author.Tests.{leb-true, leb-false}
use Rattle.wire.specs.Choice.{choose}
use Rattle.constants.specs.Edition.{size_of, file_edition_of}

-- an entry that is there does not depend on what stands for one that is not
pub within_any : (l : List ℕ) (d e i : ℕ) → i < length l → get_or l i d ≡ get_or l i e
within_any [] d e i h = absurd (omega arith)
within_any (x ∷ l) d e zero h = refl
within_any (x ∷ l) d e (suc i) h = within_any l d e i (omega arith)

-- a newer edition is no shorter
size_step : (e : ℕ) → size_of e ≤ size_of (suc e)
size_step zero = omega arith
size_step (suc zero) = omega arith
size_step (suc (suc zero)) = omega arith
size_step (suc (suc (suc zero))) = omega arith
size_step (suc (suc (suc (suc e)))) = omega arith

pub size_mono : (e k : ℕ) → e ≤ k → size_of e ≤ size_of k
size_mono e k h = le_ind (λ (m : ℕ). size_of e ≤ size_of m) (le_refl (size_of e)) (λ m l i. le_trans i (size_step m)) k h

-- from edition 3 on there is one size
pub size_last : (e : ℕ) → 3 ≤ e → size_of e ≡ 52
size_last zero h = absurd (omega arith)
size_last (suc zero) h = absurd (omega arith)
size_last (suc (suc zero)) h = absurd (omega arith)
size_last (suc (suc (suc zero))) h = refl
size_last (suc (suc (suc (suc e)))) h = refl

-- the file's edition is at most 3, and its size is at most that of a record that edition 0 fits
pub edition_few : (s : ℕ) → file_edition_of s ≤ 3
edition_few s = go (leb 52 s) (leb 48 s) (leb 36 s)
  where
    go : (a b c : Bool) → choose a 3 (choose b 2 (choose c 1 0)) ≤ 3
    go true b c = omega arith
    go false true c = omega arith
    go false false true = omega arith
    go false false false = omega arith

pub edition_fits : (s : ℕ) → 24 ≤ s → size_of (file_edition_of s) ≤ s
edition_fits s h = go (leb 52 s) (leb 48 s) (leb 36 s) (leb-true 52 s) (leb-true 48 s) (leb-true 36 s)
  where
    go : (a b c : Bool) → (a ≡ true → 52 ≤ s) → (b ≡ true → 48 ≤ s) → (c ≡ true → 36 ≤ s) → size_of (choose a 3 (choose b 2 (choose c 1 0))) ≤ s
    go true b c p q r = p refl
    go false true c p q r = q refl
    go false false true p q r = r refl
    go false false false p q r = h

-- it is the greatest such: an edition whose size fits is no newer
pub edition_greatest : (k s : ℕ) → k ≤ 3 → size_of k ≤ s → k ≤ file_edition_of s
edition_greatest k s h l = go (leb 52 s) (leb 48 s) (leb 36 s) (leb-false 52 s) (leb-false 48 s) (leb-false 36 s)
  where
    newer : (j : ℕ) → s < size_of j → k < j
    newer j g = lt_of (size_mono j k) g l
      where
        lt_of : (j ≤ k → size_of j ≤ size_of k) → s < size_of j → size_of k ≤ s → k < j
        lt_of m a b = native.Mathlib.Nat.lt_of_not-le (λ i. let z = m i in omega arith)

    go : (a b c : Bool) → (a ≡ false → s < 52) → (b ≡ false → s < 48) → (c ≡ false → s < 36) → k ≤ choose a 3 (choose b 2 (choose c 1 0))
    go true b c p q r = h
    go false true c p q r = let z = newer 3 (p refl) in omega arith
    go false false true p q r = let z = newer 2 (q refl) in omega arith
    go false false false p q r = let z = newer 1 (r refl) in omega arith

-- a record that edition k fits is read at edition k
pub edition_read_lem : (k s : ℕ) → k ≤ 3 → size_of k ≤ s → min k (file_edition_of s) ≡ k
edition_read_lem k s h l = let g = edition_greatest k s h l in omega arith
