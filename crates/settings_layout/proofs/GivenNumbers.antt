-- The writer's numbers: how wide they are, how they are laid, and when they fit.
-- Assumes nothing.
use Prim.Native.Nat.{ℕ, zero, suc, ◌+◌, ◌/◌, ◌%◌, ◌<◌, ◌≤◌}
use mathlib.Core.Path.{◌≡◌, refl, ap}
use mathlib.Core.Bool.{Bool, true, false}
use mathlib.Core.List.{List, [], ◌∷◌, ◌++◌}
use native.Mathlib.Omega.{arith}
use lib.Dec.{ltb}
use lib.ListN.{length, get_or, length-append}
use Rattle.wire.specs.Choice.{choose}
use Rattle.wire.specs.Verdict.{◌then◌, Refused}
use Rattle.settings_layout.specs.declared.Row.{Row}
use Rattle.settings_layout.specs.Groups.{groups, in_groups}
use Rattle.settings_layout.specs.File.{judged}
use Rattle.settings_layout.specs.Laid.{row_laid, rows_laid, laid}
use Rattle.settings_layout.specs.Given.{rows_given}
use Rattle.settings_layout.specs.Checked.{numbers_laid, width, row_width, Fits}
use Rattle.settings_layout.proofs.Groupings.{first_large}
use Rattle.settings_layout.proofs.Read.{number_refused}

groups_width : (k n : ℕ) → (1 ≤ length (groups k n)) × (length (groups k n) ≤ suc k)
unfolding groups
groups_width zero n = omega arith
groups_width (suc k) n = go (ltb n 128) (groups_width k (n / 128))
  where
    go : (t : Bool) → (1 ≤ length (groups k (n / 128))) × (length (groups k (n / 128)) ≤ suc k)
        → (1 ≤ length (choose t (n ∷ []) ((n % 128 + 128) ∷ groups k (n / 128)))) × (length (choose t (n ∷ []) ((n % 128 + 128) ∷ groups k (n / 128))) ≤ suc (suc k))
    go true h = omega arith
    go false h = omega arith

pub width_small : (n : ℕ) → (1 ≤ width n) × (width n ≤ 5)
unfolding in_groups
width_small n = groups_width 4 n

pub rows_flat : (g : List ℕ) → length g % 3 ≡ 0 → rows_laid (rows_given g) ≡ numbers_laid g
unfolding rows_laid row_laid rows_given numbers_laid
rows_flat [] h = refl
rows_flat (v ∷ []) h = absurd (omega arith)
rows_flat (v ∷ k ∷ []) h = absurd (omega arith)
rows_flat (v ∷ k ∷ x ∷ l) h = ap (λ (m : List ℕ). in_groups v ++ (in_groups k ++ (in_groups x ++ m))) (rows_flat l (omega arith))

pub rows_count : (g : List ℕ) → length (rows_given g) ≡ length g / 3
unfolding rows_given
rows_count [] = refl
rows_count (v ∷ []) = refl
rows_count (v ∷ k ∷ []) = refl
rows_count (v ∷ k ∷ x ∷ l) = let h = rows_count l in omega arith

pub given_fit : (g : List ℕ) → ((i : ℕ) → get_or g i 0 < 4294967296) → Fits (rows_given g)
unfolding rows_given
given_fit [] h = tt
given_fit (v ∷ []) h = tt
given_fit (v ∷ k ∷ []) h = tt
given_fit (v ∷ k ∷ x ∷ l) h = (record { version = h 0; key = h 1; value = h 2 }, given_fit l (λ i. h (suc (suc (suc i)))))

pub judged_large : (l : List Row) → 4294967296 ≤ length l → judged (laid l) ≡ Refused 54 0
unfolding judged laid ◌then◌
judged_large l h = rw (number_refused 0 _ 54 (first_large (rows_laid l) (length l) h))

pub laid_length : (l : List Row) → length (laid l) ≡ width (length l) + length (rows_laid l)
unfolding laid
laid_length l = length-append (in_groups (length l)) (rows_laid l)

pub row_length : (r : Row) (l : List ℕ) → length (row_laid r l) ≡ row_width r + length l
unfolding row_laid row_width
row_length r l = simp length-append (omega arith)
