-- Numbers that are put one after the other.
-- Assumes nothing.
use Prim.Native.Nat.{ℕ, zero, suc, ◌+◌, ◌-◌, ◌/◌, ◌%◌, ◌<◌, ◌≤◌}
use mathlib.Core.Path.{◌≡◌, refl, sym, ◌∙◌, ap}
use mathlib.Core.List.{List, [], ◌∷◌, ◌++◌}
use native.Mathlib.Numerals.{add-one}
use native.Mathlib.Nat.{add-zero, zero-add}
use native.Mathlib.Omega.{arith}
use lib.ListN.{length, get_or, drop, set, drop_of_length-le, length-append}
use lib.Seq.{drop-cons, sets, sets-eq, length-sets}
use borrow.Author.Tests.{le-ltb}
use Rattle.settings_layout.specs.Groups.{groups, in_groups, capacity}
use Rattle.settings_layout.specs.Checked.{numbers_laid}
use Rattle.settings_layout.proofs.Groupings.{one_group}

-- ---- one group after the other
pub record Further (k n : ℕ) : Type 0 where
  pub form : groups k n ≡ (n % 128 + 128) ∷ groups (k - 1) (n / 128)
  pub more : 1 ≤ k
  pub fits : n / 128 < capacity (k - 1)

pub further : (k n : ℕ) → n < capacity k → 128 ≤ n → Further k n
unfolding groups
further zero n h g = absurd (omega arith)
further (suc k) n h g =
    let e : suc k - 1 ≡ k = omega arith in
    record { form = rw (e, le-ltb n 128 g); more = omega arith; fits = rw e (omega arith) }

module _ (o : List ℕ) (at k n : ℕ) where
  pub put_last : n < 128 → (at + 1 ≡ at + length (groups k n)) × (set o at n ≡ sets o at (groups k n))
  put_last h = rw (one_group k n h) (refl, refl)

  pub put_further : Further k n → {r : ℕ} {y : List ℕ} → r ≡ at + 1 + length (groups (k - 1) (n / 128)) → y ≡ sets (set o at (n % 128 + 128)) (at + 1) (groups (k - 1) (n / 128))
      → (r ≡ at + length (groups k n)) × (y ≡ sets o at (groups k n))
  put_further f p q = rw f.form (p ∙ omega arith, q ∙ rw add-one)

-- ---- one number after the other
sets_append : (a b l : List ℕ) (i : ℕ) → sets l i (a ++ b) ≡ sets (sets l i a) (i + length a) b
sets_append [] b l i = rw add-zero
sets_append (x ∷ a) b l i =
    let e : suc i + length a ≡ i + suc (length a) = omega arith in
    sets_append a b (set l i x) (suc i) ∙ rw e

pub record Putting (o : List ℕ) (from : ℕ) (g x : List ℕ) (at i : ℕ) : Type 0 where
  pub inside : i ≤ length g
  pub same : length x ≡ length o
  pub room : at + length (numbers_laid (drop i g)) ≤ length x
  pub holds : sets x at (numbers_laid (drop i g)) ≡ sets o from (numbers_laid g)

module _ (o : List ℕ) (from : ℕ) (g : List ℕ) where
  pub putting_begin : from + length (numbers_laid g) ≤ length o → Putting o from g o from 0
  putting_begin h = record { inside = omega arith; same = refl; room = h; holds = refl }

  module _ (x : List ℕ) (at i : ℕ) (p : Putting o from g x at i) where
    module _ (h : i < length g) where
      front : numbers_laid (drop i g) ≡ in_groups (get_or g i 0) ++ numbers_laid (drop (i + 1) g)
      unfolding numbers_laid
      front = rw (drop-cons g i 0 h, add-one i)

      pub putting_fits : at + length (in_groups (get_or g i 0)) ≤ length x
      putting_fits = omega (arith, rw (front, length-append) at p.room)

      pub putting_more : {r : ℕ} {y : List ℕ} → r ≡ at + length (in_groups (get_or g i 0)) → y ≡ sets x at (in_groups (get_or g i 0))
          → Putting o from g y r (i + 1)
      putting_more {r} {y} e q =
          let l : length y ≡ length x = ap length q ∙ length-sets x at (in_groups (get_or g i 0)) in
          let f : at + (length (in_groups (get_or g i 0)) + length (numbers_laid (drop (i + 1) g))) ≤ length x = rw (front, length-append) at p.room in
          record {
            inside = omega arith;
            same = l ∙ p.same;
            room = omega arith;
            holds = rw (q, e) (sym (sets_append (in_groups (get_or g i 0)) _ x at) ∙ ap (sets x at) (sym front) ∙ p.holds);
          }

    pub putting_done : length g ≤ i → x ≡ sets o from (numbers_laid g)
    unfolding numbers_laid
    putting_done h =
        let d : drop i g ≡ [] = drop_of_length-le g {i = i} h in
        rw d at p.holds

-- ---- the whole file
pub all_put : (o a b y : List ℕ) (at : ℕ) → length (a ++ b) ≤ length o → at ≡ 0 + length a → {x : List ℕ} → x ≡ sets o 0 a → y ≡ sets x at b
    → y ≡ (a ++ b) ++ drop (length (a ++ b)) o
all_put o a b y at h e {x} p q =
    q ∙ rw (p, e) (sym (sets_append a b o 0) ∙ sets-eq (a ++ b) o 0 (rw zero-add h) ∙ rw zero-add)
