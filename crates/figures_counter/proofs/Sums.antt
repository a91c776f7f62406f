-- Sums of two counts, and of two lists of counts.
-- Assumes nothing.
use Prim.Native.Nat.{ℕ, suc, ◌+◌, ◌-◌, min, ◌<◌, ◌≤◌}
use lib.Dec.{leb}
use mathlib.Core.Bool.{Bool, true, false}
use Rattle.wire.specs.Choice.{choose}
use mathlib.Core.Path.{◌≡◌, refl, sym, ◌∙◌}
use mathlib.Core.List.{List, [], ◌∷◌, ◌++◌, append-nil, append_assoc}
use native.Mathlib.Numerals.{add-one}
use native.Mathlib.Omega.{arith}
use lib.ListN.{length, get_or, set, take, drop, length-set, drop_of_length-le}
use lib.Seq.{drop-cons, take-suc-set, drop-set-lt, take_all}
use borrow.Author.Tests.{leb-true, leb-false}
use Rattle.figures_layout.specs.Figures.{sum_up_to, plus, sums}

-- the library's sum that stays at the greatest number of a type
pub capped : (m a b : ℕ) → a ≤ m → min (a + b) m ≡ sum_up_to m a b
capped m a b h = go (leb b (m - a)) refl
  where
    go : (t : Bool) → leb b (m - a) ≡ t → min (a + b) m ≡ choose t (a + b) m
    go true e = let l : b ≤ m - a = leb-true _ _ e in omega arith
    go false e = let l : m - a < b = leb-false _ _ e in omega arith

-- ---- the loop over two lists of counts has come to i, and r holds the sums below it
pub record Summing (a b r : List ℕ) (i : ℕ) : Type 0 where
  pub inside : i ≤ length r
  pub long : length r ≡ length a
  pub same : length r ≡ length b
  pub holds : sums a b ≡ take i r ++ sums (drop i r) (drop i b)

pub summing_begin : (a b : List ℕ) → length a ≡ length b → Summing a b a 0
summing_begin a b h = record { inside = omega arith; long = refl; same = h; holds = refl }

module _ (a b r : List ℕ) (i : ℕ) (s : Summing a b r i) where
  pub summing_more : i < length r → {x : ℕ} → x ≡ plus (get_or r i 0) (get_or b i 0) → Summing a b (set r i x) (i + 1)
  unfolding sums
  summing_more h {x} e =
      let same = s.same in
      let hb : i < length b = omega arith in
      let dr : drop i r ≡ get_or r i 0 ∷ drop (suc i) r = drop-cons r i 0 h in
      let db : drop i b ≡ get_or b i 0 ∷ drop (suc i) b = drop-cons b i 0 hb in
      let t : take (suc i) (set r i x) ≡ take i r ++ (x ∷ []) = take-suc-set r i x h in
      let d : drop (suc i) (set r i x) ≡ drop (suc i) r = drop-set-lt (suc i) r i x (omega arith) in
      let n = length-set r i x in
      record {
        inside = omega arith;
        long = n ∙ s.long;
        same = n ∙ same;
        holds = s.holds ∙ rw (add-one i, dr, db, t, d, append_assoc, ← e);
      }

  pub summing_done : length r ≤ i → r ≡ sums a b
  unfolding sums
  summing_done h =
      let d : drop i r ≡ [] = drop_of_length-le r {i = i} (omega arith) in
      let t : take i r ≡ r = take_all i r (omega arith) in
      sym (s.holds ∙ rw (d, t, append-nil))
