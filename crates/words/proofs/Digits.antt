-- The loop over a word's digits.
-- Assumes nothing.
use Prim.Native.Nat.{ℕ, ◌+◌, ◌*◌, ◌-◌, ◌<◌, ◌≤◌, min}
use mathlib.Core.Path.{◌≡◌, refl, ◌∙◌, ap}
use mathlib.Core.Bool.{Bool, true, false}
use mathlib.Core.List.{List, [], ◌∷◌}
use native.Mathlib.Numerals.{add-one}
use native.Mathlib.Omega.{arith}
use lib.Dec.{leb}
use lib.ListN.{length, drop, get_or, drop_of_length-le}
use lib.Seq.{drop-cons}
use borrow.Author.Tests.{lt-ltb, le-ltb, leb-true, leb-false}
use Rattle.wire.specs.Choice.{choose}
use Rattle.words.specs.Word.{is_digit, named_from, named_of}
use Rattle.std.specs.Prelude.{Result, Ok, Err, OkIff}
use Rattle.std.specs.Result.{result_or}
use Rattle.words.specs.declared.WordError.{WordError}
use Rattle.words.specs.declared.WordError.TheVariants.{Greater, NoNumber}

-- from 4,294,967,296 on, which number it is doesn't matter
large : (l : List ℕ) (m n : ℕ) → 4294967296 ≤ m → 4294967296 ≤ n → named_from m l ≡ named_from n l
unfolding named_from
large [] m n h g = rw (le-ltb m 4294967296 h, le-ltb n 4294967296 g)
large (c ∷ l) m n h g = ap (λ (x : Result ℕ WordError). choose (is_digit c) x (Err NoNumber)) (large l (10 * m + (c - 48)) (10 * n + (c - 48)) (omega arith) (omega arith))

pub none_named : (s : List ℕ) → length s ≡ 0 → Err NoNumber ≡ named_of s
unfolding named_of
none_named [] h = refl
none_named (c ∷ l) h = absurd (omega arith)

-- the loop has read i digits, n their number or one that is as good
pub record Reading (s : List ℕ) (n i : ℕ) : Type 0 where
  pub within : i ≤ length s
  pub small : n ≤ 4294967296
  pub left : named_of s ≡ named_from n (drop i s)

pub reading_begin : (s : List ℕ) → (length s ≡ 0 → ⊥) → Reading s 0 0
unfolding named_of
reading_begin [] h = absurd (h refl)
reading_begin (c ∷ l) h = record { within = omega arith; small = omega arith; left = refl }

module _ (s : List ℕ) (n i : ℕ) (r : Reading s n i) where
  module _ (h : i < length s) {c : ℕ} (e : c ≡ get_or s i 0) where
    front : drop i s ≡ c ∷ drop (i + 1) s
    front = drop-cons s i 0 h ∙ rw (e, add-one i)

    pub not_digit : is_digit c ≡ false → Err NoNumber ≡ named_of s
    unfolding named_from
    not_digit g = rw (r.left, front, g)

    digit : is_digit c ≡ true → named_of s ≡ named_from (10 * n + (c - 48)) (drop (i + 1) s)
    unfolding named_from
    digit g = r.left ∙ rw (front, g)

    pub reading_more : is_digit c ≡ true → {m : ℕ} → m ≡ min (10 * n + (c - 48)) 4294967296 → Reading s m (i + 1)
    reading_more g {m} q = record { within = omega arith; small = omega arith; left = digit g ∙ go (leb (10 * n + (c - 48)) 4294967296) refl }
      where
        go : (t : Bool) → leb (10 * n + (c - 48)) 4294967296 ≡ t → named_from (10 * n + (c - 48)) (drop (i + 1) s) ≡ named_from m (drop (i + 1) s)
        go true b =
            let f : 10 * n + (c - 48) ≤ 4294967296 = leb-true _ _ b in
            let a : 10 * n + (c - 48) ≡ m = omega arith in
            ap (λ (x : ℕ). named_from x (drop (i + 1) s)) a
        go false b =
            let f : 4294967296 < 10 * n + (c - 48) = leb-false _ _ b in
            large (drop (i + 1) s) (10 * n + (c - 48)) m (omega arith) (omega arith)

  module _ (h : length s ≤ i) where
    over : named_of s ≡ named_from n []
    over = r.left ∙ ap (named_from n) (drop_of_length-le s {i = i} h)

    pub told : {E : Type 0} (t : Result ℕ E) → OkIff t (n < 4294967296) n → {x : Result ℕ WordError} → x ≡ result_or t (Err Greater) → x ≡ named_of s
    unfolding named_from
    told (Ok m) (g, q) e = e ∙ rw (over, lt-ltb n 4294967296 g, q)
    told (Err m) g e = e ∙ rw (over, le-ltb n 4294967296 (omega arith))
