-- Laws of little-endian numbers.
-- Assumes nothing.
use Prim.Native.Nat.{ℕ, ◌+◌, ◌*◌, ◌/◌, ◌%◌, ◌<◌, ◌≤◌}
use mathlib.Core.Path.{◌≡◌, refl, sym, ◌∙◌, ap}
use mathlib.Core.List.{List, [], ◌∷◌, ◌++◌}
use lib.ListN.{length, get_or, take, drop, get_or-append, get_or-eq_default, length-drop, take-append-drop}
use lib.Seq.{get_or-append-add, get_or-take, get_or-drop, drop-drop, length-take-le, take_all}
use native.Mathlib.Nat.{add_assoc, add-zero}
use native.Mathlib.Omega.{arith}
use borrow.Author.Tests.{le-leb, lt-leb}
use Rattle.std.specs.Int.{to_le_bytes, w16, w32}
use Rattle.wire.specs.Number.{u16_at, u32_at, le16, le32, placed, Bytes}

pub le32_length : (n : ℕ) → length (le32 n) ≡ 4
unfolding le32
le32_length n = refl

pub le16_length : (n : ℕ) → length (le16 n) ≡ 2
unfolding le16
le16_length n = refl

-- the library's bytes of a number, the lowest first
pub le16_bytes : (n : ℕ) → to_le_bytes w16 n ≡ le16 n
unfolding le16
le16_bytes n = refl

pub le32_bytes : (n : ℕ) → to_le_bytes w32 n ≡ le32 n
unfolding le32
le32_bytes n =
    let e : n / 65536 ≡ n / 256 / 256 = omega arith in
    let f : n / 16777216 ≡ n / 256 / 256 / 256 = omega arith in
    rw (e, f)

-- the number of a number's bytes
pub u32_le32 : (n : ℕ) (l : List ℕ) → n < 4294967296 → u32_at (le32 n ++ l) 0 ≡ n
unfolding le32 u32_at
u32_le32 n l h = omega arith

pub u16_le16 : (n : ℕ) (l : List ℕ) → n < 65536 → u16_at (le16 n ++ l) 0 ≡ n
unfolding le16 u16_at
u16_le16 n l h = omega arith

-- a number that lies inside the first list
pub u32_front : (a b : List ℕ) (o : ℕ) → o + 4 ≤ length a → u32_at (a ++ b) o ≡ u32_at a o
unfolding u32_at
u32_front a b o h =
    let h0 : o < length a = omega arith in
    let h1 : o + 1 < length a = omega arith in
    let h2 : o + 2 < length a = omega arith in
    let h3 : o + 3 < length a = omega arith in
    simp get_or-append

pub u32_take : (n : ℕ) (l : List ℕ) (o : ℕ) → o + 4 ≤ n → u32_at (take n l) o ≡ u32_at l o
unfolding u32_at
u32_take n l o h =
    let h0 : o < n = omega arith in
    let h1 : o + 1 < n = omega arith in
    let h2 : o + 2 < n = omega arith in
    let h3 : o + 3 < n = omega arith in
    simp get_or-take

pub u32_drop : (n : ℕ) (l : List ℕ) (o : ℕ) → u32_at (drop n l) o ≡ u32_at l (n + o)
unfolding u32_at
u32_drop n l o = simp (get_or-drop, add_assoc)

pub u16_drop : (n : ℕ) (l : List ℕ) (o : ℕ) → u16_at (drop n l) o ≡ u16_at l (n + o)
unfolding u16_at
u16_drop n l o = simp (get_or-drop, add_assoc)

-- ---- the bytes of a number that was read
digit_high : (x m : ℕ) → x < 256 → (x + 256 * m) / 256 ≡ m
digit_high x m h = omega arith

digit_low : (x m : ℕ) → x < 256 → (x + 256 * m) % 256 ≡ x
digit_low x m h = omega arith

pub le32_u32 : (l : List ℕ) → Bytes l → 4 ≤ length l → le32 (u32_at l 0) ≡ take 4 l
unfolding le32 u32_at
le32_u32 [] b h = absurd (omega arith)
le32_u32 (x ∷ []) b h = absurd (omega arith)
le32_u32 (x ∷ y ∷ []) b h = absurd (omega arith)
le32_u32 (x ∷ y ∷ z ∷ []) b h = absurd (omega arith)
le32_u32 (x ∷ y ∷ z ∷ w ∷ l) b h =
    let bx : x < 256 = b.below 0 in
    let b1 : y < 256 = b.below 1 in
    let b2 : z < 256 = b.below 2 in
    let b3 : w < 256 = b.below 3 in
    let e : x + 256 * y + 65536 * z + 16777216 * w ≡ x + 256 * (y + 256 * (z + 256 * (w + 256 * 0))) = omega arith in
    rw e (simp (digit_low, digit_high))

pub le16_u16 : (l : List ℕ) → Bytes l → 2 ≤ length l → le16 (u16_at l 0) ≡ take 2 l
unfolding le16 u16_at
le16_u16 [] b h = absurd (omega arith)
le16_u16 (x ∷ []) b h = absurd (omega arith)
le16_u16 (x ∷ y ∷ l) b h =
    let bx : x < 256 = b.below 0 in
    let b1 : y < 256 = b.below 1 in
    let e : x + 256 * y ≡ x + 256 * (y + 256 * 0) = omega arith in
    rw e (simp (digit_low, digit_high))

-- four bytes are known from their number
four_of : (l : List ℕ) → Bytes l → length l ≡ 4 → le32 (u32_at l 0) ≡ l
four_of l b h = le32_u32 l b (omega arith) ∙ take_all 4 l (omega arith)

pub same_bytes_lem : (l m : List ℕ) → Bytes l → Bytes m → length l ≡ 4 → length m ≡ 4 → u32_at l 0 ≡ u32_at m 0 → l ≡ m
same_bytes_lem l m b c h g e = sym (four_of l b h) ∙ ap le32 e ∙ four_of m c g

-- ---- what is past the end
pub past_end : (l : List ℕ) (n : ℕ) → length l ≤ n → 0 ≡ get_or l n 0
past_end l n h = sym (get_or-eq_default l 0 h)

-- ---- numbers that are put at a place
-- the number right after a list
number_at : (a b : List ℕ) → u32_at (a ++ b) (length a) ≡ u32_at b 0
unfolding u32_at
number_at a b =
    let e0 = rw add-zero at (get_or-append-add a b 0 0) in
    let e1 = get_or-append-add a b 1 0 in
    let e2 = get_or-append-add a b 2 0 in
    let e3 = get_or-append-add a b 3 0 in
    rw (e0, e1, e2, e3)

pub bytes_drop : (l : List ℕ) (n : ℕ) → Bytes l → Bytes (drop n l)
bytes_drop l n b = record { below = λ i. rw get_or-drop (b.below (n + i)) }

pub read_bytes : (l : List ℕ) (at : ℕ) → Bytes l → at + 4 ≤ length l → le32 (u32_at l at) ≡ take 4 (drop at l)
read_bytes l at b h =
    let e : u32_at (drop at l) 0 ≡ u32_at l at = u32_drop at l 0 ∙ rw add-zero in
    rw (← e) (le32_u32 (drop at l) (bytes_drop l at b) (simp length-drop (omega arith)))

again : (l : List ℕ) (at : ℕ) → take at l ++ (take 4 (drop at l) ++ drop (at + 4) l) ≡ l
again l at = rw (← drop-drop 4 at l, take-append-drop, take-append-drop)

module _ (l : List ℕ) (at : ℕ) where
  pub placed_in : (v : List ℕ) → at + length v ≤ length l → placed l at v ≡ take at l ++ (v ++ drop (at + length v) l)
  unfolding placed
  placed_in v h = simp (le-leb _ _ h)

  pub placed_out : (v : List ℕ) (n : ℕ) → length v ≡ n → length l < at + n → l ≡ placed l at v
  unfolding placed
  placed_out v n e h = let h' : length l < at + length v = omega arith in simp (lt-leb _ _ h')

  -- what was put is read
  pub read_of_written : (n : ℕ) → n < 4294967296 → at + 4 ≤ length l → u32_at (placed l at (le32 n)) at ≡ n
  read_of_written n b h =
      let h' : at + length (le32 n) ≤ length l = rw le32_length h in
      let e : length (take at l) ≡ at = length-take-le at l (omega arith) in
      let f = number_at (take at l) (le32 n ++ drop (at + length (le32 n)) l) in
      rw (placed_in (le32 n) h') (rw e at f ∙ u32_le32 n _ b)

  -- what was read, put again, changes nothing
  pub written_of_read : Bytes l → at + 4 ≤ length l → placed l at (le32 (u32_at l at)) ≡ l
  written_of_read b h =
      let e : le32 (u32_at l at) ≡ take 4 (drop at l) = read_bytes l at b h in
      let h' : at + length (le32 (u32_at l at)) ≤ length l = rw le32_length h in
      placed_in (le32 (u32_at l at)) h' ∙ rw (le32_length, e) (again l at)
