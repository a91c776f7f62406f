-- The code points of a well-formed string are its bytes outside 80..BF: a count that needs no table.
-- Assumes nothing.
use Prim.Native.Nat.{ℕ, zero, suc, ◌+◌, ◌≤◌}
use mathlib.Core.Path.{◌≡◌, refl, sym, ◌∙◌}
use mathlib.Core.Bool.{Bool, true, false, ◌&&◌, ◌||◌, true≢false}
use mathlib.Core.List.{List, [], ◌∷◌}
use native.Mathlib.Omega.{arith}
use lib.Dec.{leb, ltb}
use lib.ListN.{length}
use borrow.Author.Tests.{leb-true, ltb-true}
use Rattle.wire.specs.Choice.{choose}
use Rattle.wire.proofs.Choices.{both}
use Rattle.utf8_layout.specs.Lead.{follows, lead, leads}
use Rattle.utf8_layout.specs.Sequence.{Range, ◌to◌, Count, sequences, broken, table, within, fits, front, more, after, counted, is_whole, number_in, well_formed, code_points}
use Rattle.utf8_layout.proofs.Rows.{Row, none, rest, row_for, front_of, front_for, table_rising, inside, below, above, bounds}

-- every range is of bytes that follow
pub trailing : List Range → Bool
trailing [] = true
trailing (lo to hi ∷ rs) = leb 0x80 lo && leb hi 0xBF && trailing rs

-- each row is a lead byte and bytes that follow
pub leading : List (List Range) → Bool
leading [] = true
leading ([] ∷ rows) = false
leading ((lo to hi ∷ rs) ∷ rows) = (ltb hi 0x80 || ltb 0xBF lo) && trailing rs && leading rows

pub table_leading : leading table ≡ true
unfolding leading trailing table
table_leading = refl

in_mid : (lo hi x : ℕ) → leb 0x80 lo ≡ true → leb hi 0xBF ≡ true → within lo hi x ≡ true → follows x ≡ true
in_mid lo hi x p q w =
    let b = bounds lo hi x w in
    let a = leb-true 0x80 lo p in
    let c = leb-true hi 0xBF q in
    inside 0x80 0xBF x (omega arith) (omega arith)

out_mid : (lo hi x : ℕ) → (ltb hi 0x80 || ltb 0xBF lo) ≡ true → within lo hi x ≡ true → follows x ≡ false
out_mid lo hi x p w = go (ltb hi 0x80) refl p (bounds lo hi x w)
  where
    go : (t : Bool) → ltb hi 0x80 ≡ t → (t || ltb 0xBF lo) ≡ true → (lo ≤ x) × (x ≤ hi) → follows x ≡ false
    go true e q b = let a = ltb-true hi 0x80 e in below 0x80 0xBF x (omega (arith, b.1))
    go false e q b = let a = ltb-true 0xBF lo q in above 0x80 0xBF x (omega arith) (omega (arith, b.0))

-- the first k bytes follow
following : ℕ → List ℕ → Bool
following zero l = true
following (suc k) [] = false
following (suc k) (x ∷ l) = follows x && following k l

fits_follow : (rs : List Range) (l : List ℕ) → trailing rs ≡ true → fits rs l ≡ true → following (length rs) l ≡ true
unfolding fits trailing following
fits_follow [] l t f = refl
fits_follow (r ∷ rs) [] t f = absurd (true≢false (sym f))
fits_follow (lo to hi ∷ rs) (x ∷ l) t f =
    let a = both (leb 0x80 lo && leb hi 0xBF) (trailing rs) t in
    let b = both (leb 0x80 lo) (leb hi 0xBF) a.0 in
    let w = both (within lo hi x) (fits rs l) f in
    rw (in_mid lo hi x b.0 b.1 w.0, fits_follow rs l a.1 w.1)

-- a first byte that settles a row leads, and ranges of bytes that follow come after it
pub row_follows : (rows : List (List Range)) (x : ℕ) (rs : List Range) → leading rows ≡ true → row_for rows x ≡ rest rs
    → (follows x ≡ false) × (trailing rs ≡ true)
unfolding leading row_for
row_follows [] x rs t e = absurd (let z : ◌≡◌ {A = ℕ} 0 1 = cc in omega arith)
row_follows ([] ∷ rows) x rs t e = absurd (true≢false (sym t))
row_follows ((lo to hi ∷ qs) ∷ rows) x rs t e =
    let a = both ((ltb hi 0x80 || ltb 0xBF lo) && trailing qs) (leading rows) t in
    let b = both (ltb hi 0x80 || ltb 0xBF lo) (trailing qs) a.0 in
    go (within lo hi x) refl e b.0 b.1 (λ f. row_follows rows x rs a.1 f)
  where
    go : (z : Bool) → within lo hi x ≡ z → choose z (rest qs) (row_for rows x) ≡ rest rs
        → (ltb hi 0x80 || ltb 0xBF lo) ≡ true → trailing qs ≡ true
        → (row_for rows x ≡ rest rs → (follows x ≡ false) × (trailing rs ≡ true)) → (follows x ≡ false) × (trailing rs ≡ true)
    go true w e p t f = let q : qs ≡ rs = cc in (out_mid lo hi x p w, rw (← q) t)
    go false w e p t f = f e

front_follow : (x : ℕ) (l : List ℕ) (k : ℕ) → front table (x ∷ l) ≡ suc k → (follows x ≡ false) × (following k l ≡ true)
front_follow x l k e = go (row_for table x) refl (sym (front_for 0 table x l table_rising) ∙ e)
  where
    go : (r : Row) → row_for table x ≡ r → front_of r l ≡ suc k → (follows x ≡ false) × (following k l ≡ true)
    go none q f = unfold front_of in absurd (omega arith)
    go (rest rs) q f = unfold front_of in fit (fits rs l) refl f (row_follows table x rs table_leading q)
      where
        fit : (t : Bool) → fits rs l ≡ t → choose t (suc (length rs)) 0 ≡ suc k → (follows x ≡ false) × (trailing rs ≡ true)
            → (follows x ≡ false) × (following k l ≡ true)
        fit true g f w = let n : length rs ≡ k = omega arith in (w.0, rw (← n) (fits_follow rs l w.1 g))
        fit false g f w = absurd (omega arith)

-- ---- the count of a list
less : (c : Count) (n : ℕ) → more c ≡ sequences n → (m : ℕ) × (c ≡ sequences m) × (n ≡ suc m)
unfolding more
less (sequences m) n e = (m, refl, let q : suc m ≡ n = cc in sym q)
less broken n e = absurd (let z : ◌≡◌ {A = ℕ} 0 1 = cc in omega arith)

counted_leads : (l : List ℕ) (k n : ℕ) → following k l ≡ true → counted l k ≡ sequences n → n ≡ leads l
unfolding counted leads following lead
counted_leads [] zero n f e = let q : 0 ≡ n = cc in sym q
counted_leads [] (suc k) n f e = absurd (true≢false (sym f))
counted_leads (x ∷ l) (suc k) n f e =
    let b = both (follows x) (following k l) f in
    rw b.0 (counted_leads l k n b.1 e ∙ omega arith)
counted_leads (x ∷ l) zero n f e = go (front table (x ∷ l)) refl e (λ k m. counted_leads l k m)
  where
    go : (j : ℕ) → front table (x ∷ l) ≡ j → after j (λ k. counted l k) ≡ sequences n
        → ((k m : ℕ) → following k l ≡ true → counted l k ≡ sequences m → m ≡ leads l)
        → n ≡ lead x + leads l
    go zero q e r = unfold after in absurd (let z : ◌≡◌ {A = ℕ} 0 1 = cc in omega arith)
    go (suc k) q e r =
        unfold after in
        let b = front_follow x l k q in
        let s = less (counted l k) n e in
        let m = r k s.0 b.1 s.1 in
        rw b.0 (omega arith)

pub points_leads : (l : List ℕ) → well_formed l ≡ true → code_points l ≡ leads l
unfolding well_formed code_points
points_leads l h = go (counted l 0) refl h
  where
    go : (c : Count) → counted l 0 ≡ c → is_whole c ≡ true → number_in c ≡ leads l
    go (sequences n) e h = counted_leads l 0 n (unfold following in refl) e
    go broken e h = absurd (true≢false (sym h))
