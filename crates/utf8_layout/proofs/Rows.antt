-- Table 3-7 by its first bytes: the rows rise, so the first byte of a sequence settles its row; a row is a lead byte and bytes that follow.
-- Assumes nothing.
use Prim.Native.Nat.{ℕ, suc, ◌≤◌, ◌<◌}
use mathlib.Core.Path.{◌≡◌, refl, sym}
use mathlib.Core.Bool.{Bool, true, false, ◌&&◌, true≢false}
use mathlib.Core.List.{List, [], ◌∷◌, ◌++◌}
use native.Mathlib.Omega.{arith}
use lib.Dec.{leb}
use lib.ListN.{length}
use borrow.Author.Tests.{le-leb, lt-leb, leb-true}
use Rattle.wire.specs.Choice.{choose}
use Rattle.wire.proofs.Choices.{both}
use Rattle.utf8_layout.specs.Sequence.{Range, ◌to◌, table, within, fits, front}

-- a byte inside a range, below it and above it
pub inside : (lo hi x : ℕ) → lo ≤ x → x ≤ hi → within lo hi x ≡ true
inside lo hi x g h = rw (le-leb lo x g, le-leb x hi h)

pub below : (lo hi x : ℕ) → x < lo → within lo hi x ≡ false
below lo hi x h = rw (lt-leb lo x h)

pub above : (lo hi x : ℕ) → lo ≤ hi → hi < x → within lo hi x ≡ false
above lo hi x g h = rw (le-leb lo x (omega arith), lt-leb x hi h)

pub bounds : (lo hi x : ℕ) → within lo hi x ≡ true → (lo ≤ x) × (x ≤ hi)
bounds lo hi x w = let b = both (leb lo x) (leb x hi) w in (leb-true lo x b.0, leb-true x hi b.1)

-- the rows are in the order of their first ranges, all from k on
pub rising : ℕ → List (List Range) → Bool
rising k [] = true
rising k ([] ∷ rows) = false
rising k ((lo to hi ∷ rs) ∷ rows) = leb k lo && leb lo hi && rising (suc hi) rows

pub table_rising : rising 0 table ≡ true
unfolding rising table
table_rising = refl

-- a first byte below all rows has none
none_below : (k : ℕ) (rows : List (List Range)) (x : ℕ) (l : List ℕ) → rising k rows ≡ true → x < k → front rows (x ∷ l) ≡ 0
unfolding rising front fits
none_below k [] x l r h = refl
none_below k ([] ∷ rows) x l r h = absurd (true≢false (sym r))
none_below k ((lo to hi ∷ rs) ∷ rows) x l r h =
    let b = both (leb k lo && leb lo hi) (rising (suc hi) rows) r in
    let d = both (leb k lo) (leb lo hi) b.0 in
    let p = leb-true k lo d.0 in
    let q = leb-true lo hi d.1 in
    rw (below lo hi x (omega arith)) (none_below (suc hi) rows x l b.1 (omega arith))

-- what a first byte settles: no row, or the ranges that have to follow
pub data Row : Type 0 where
  none : Row
  rest : List Range → Row

unfoldable pub row_for : List (List Range) → ℕ → Row
row_for [] x = none
row_for ([] ∷ rows) x = none
row_for ((lo to hi ∷ rs) ∷ rows) x = choose (within lo hi x) (rest rs) (row_for rows x)

-- the length of a sequence by what its first byte settles and the bytes past it
unfoldable pub front_of : Row → List ℕ → ℕ
front_of none l = 0
front_of (rest rs) l = choose (fits rs l) (suc (length rs)) 0

pub front_for : (k : ℕ) (rows : List (List Range)) (x : ℕ) (l : List ℕ) → rising k rows ≡ true → front rows (x ∷ l) ≡ front_of (row_for rows x) l
unfolding rising front fits row_for front_of
front_for k [] x l r = refl
front_for k ([] ∷ rows) x l r = absurd (true≢false (sym r))
front_for k ((lo to hi ∷ rs) ∷ rows) x l r =
    let s = (both (leb k lo && leb lo hi) (rising (suc hi) rows) r).1 in
    go (within lo hi x) refl s (front_for (suc hi) rows x l s)
  where
    go : (t : Bool) → within lo hi x ≡ t → rising (suc hi) rows ≡ true → front rows (x ∷ l) ≡ front_of (row_for rows x) l
        → choose (t && fits rs l) (suc (length rs)) (front rows (x ∷ l)) ≡ front_of (choose t (rest rs) (row_for rows x)) l
    go true e s f = rw (none_below (suc hi) rows x l s (let b = bounds lo hi x e in omega arith))
    go false e s f = f

-- a sequence lies in the list
fits_length : (rs : List Range) (l : List ℕ) → fits rs l ≡ true → length rs ≤ length l
unfolding fits
fits_length [] l h = omega arith
fits_length (r ∷ rs) [] h = absurd (true≢false (sym h))
fits_length (lo to hi ∷ rs) (x ∷ l) h = let g = fits_length rs l (both (within lo hi x) (fits rs l) h).1 in omega arith

pub front_length : (rows : List (List Range)) (l : List ℕ) → front rows l ≤ length l
unfolding front
front_length [] l = omega arith
front_length (r ∷ rows) l = go (fits r l) refl (front_length rows l)
  where
    go : (t : Bool) → fits r l ≡ t → front rows l ≤ length l → choose t (length r) (front rows l) ≤ length l
    go true e h = fits_length r l e
    go false e h = h

-- a sequence stays where more bytes follow the list
fits_append : (rs : List Range) (l m : List ℕ) → fits rs l ≡ true → fits rs (l ++ m) ≡ true
unfolding fits
fits_append [] l m h = refl
fits_append (r ∷ rs) [] m h = absurd (true≢false (sym h))
fits_append (lo to hi ∷ rs) (x ∷ l) m h = let b = both (within lo hi x) (fits rs l) h in rw (b.0, fits_append rs l m b.1)

front_of_append : (r : Row) (l m : List ℕ) → 0 < front_of r l → front_of r (l ++ m) ≡ front_of r l
unfolding front_of
front_of_append none l m h = refl
front_of_append (rest rs) l m h = go (fits rs l) refl h
  where
    go : (t : Bool) → fits rs l ≡ t → 0 < choose t (suc (length rs)) 0 → choose (fits rs (l ++ m)) (suc (length rs)) 0 ≡ choose t (suc (length rs)) 0
    go true e h = rw (fits_append rs l m e)
    go false e h = absurd (omega arith)

pub front_append : (x : ℕ) (l m : List ℕ) → 0 < front table (x ∷ l) → front table (x ∷ l ++ m) ≡ front table (x ∷ l)
front_append x l m h =
    rw (front_for 0 table x l table_rising, front_for 0 table x (l ++ m) table_rising)
    (front_of_append (row_for table x) l m (rw (front_for 0 table x l table_rising) at h))

-- a byte below 0x80 is a sequence by itself
pub front_plain : (x : ℕ) (l : List ℕ) → x < 0x80 → front table (x ∷ l) ≡ 1
unfolding front fits table
front_plain x l h = rw (inside 0x00 0x7F x (omega arith) (omega arith))
