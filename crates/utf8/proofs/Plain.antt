-- The greatest byte from a place on, and the bytes that do not follow a lead byte, counted.
-- Assumes nothing.
use Prim.Native.Nat.{ℕ, ◌+◌, ◌/◌, ◌≤◌, ◌<◌, max}
use mathlib.Core.Path.{◌≡◌, refl, sym, ◌∙◌}
use mathlib.Core.Bool.{Bool, true, false, not}
use mathlib.Core.List.{List}
use native.Mathlib.Omega.{arith}
use native.Mathlib.Numerals.{add-one}
use lib.Dec.{ltb, eqb}
use mir.Val.{bool_byte}
use lib.ListN.{length, get_or, drop}
use lib.Seq.{drop-cons, drop-length}
use borrow.Author.Tests.{ltb-true, ltb-false, eqb-true, eqb-false}
use Rattle.wire.specs.Choice.{choose}
use Rattle.psv0_layout.specs.Position.{PlainFrom}
use Rattle.utf8_layout.specs.Lead.{follows, lead, leads}
use Rattle.utf8_layout.specs.Sequence.{well_formed, code_points}
use Rattle.utf8_layout.proofs.Rows.{inside, below, above}
use Rattle.utf8_layout.proofs.Counts.{points_leads}

-- ---- the greatest byte
-- every byte from i up to n is at most m
abbrev pub AtMost : List ℕ → ℕ → ℕ → ℕ → Type 0
AtMost t i n m = (j : ℕ) → i ≤ j → j < n → get_or t j 0 ≤ m

module _ (t : List ℕ) (i : ℕ) where
  pub most_none : (m : ℕ) → AtMost t i i m
  most_none m j a b = absurd (omega arith)

  pub most_more : (n m r : ℕ) → AtMost t i n m → m ≤ r → get_or t n 0 ≤ r → AtMost t i (n + 1) r
  most_more n m r f h g j a b = go (ltb j n) refl
    where
      go : (s : Bool) → ltb j n ≡ s → get_or t j 0 ≤ r
      go true e = omega (arith, f j a (ltb-true j n e))
      go false e = let z = ltb-false j n e in let q : j ≡ n = omega arith in rw q g

  -- plain bytes keep it below 0x80
  pub most_below : (n m r : ℕ) → n < length t → i ≤ n → (PlainFrom t i → m < 0x80) → r ≡ max m (get_or t n 0) → PlainFrom t i → r < 0x80
  most_below n m r h a f e q = omega (arith, f q, q n a h)

  -- where it is below 0x80, all are
  pub most_plain : (n m : ℕ) → AtMost t i n m → length t ≤ n → m < 0x80 → PlainFrom t i
  most_plain n m f h l j a b = omega (arith, f j a (omega arith))

-- ---- lead bytes
pub lead_none : (x : ℕ) → x / 64 ≡ 2 → lead x ≡ 0
unfolding lead
lead_none x h = rw (inside 0x80 0xBF x (omega arith) (omega arith))

pub lead_one : (x : ℕ) → (x / 64 ≡ 2 → ⊥) → lead x ≡ 1
unfolding lead
lead_one x h = go (ltb x 128) refl
  where
    go : (s : Bool) → ltb x 128 ≡ s → ◌≡◌ {A = ℕ} (choose (follows x) 0 1) 1
    go true e = let l = ltb-true x 128 e in rw (below 0x80 0xBF x l)
    go false e = let l = ltb-false x 128 e in rw (above 0x80 0xBF x (omega arith) (omega arith))

pub lead_byte : (x : ℕ) → bool_byte (not (eqb (x / 64) 2)) ≡ lead x
lead_byte x = go (eqb (x / 64) 2) refl
  where
    go : (s : Bool) → eqb (x / 64) 2 ≡ s → bool_byte (not s) ≡ lead x
    go true e = sym (lead_none x (eqb-true (x / 64) 2 e))
    go false e = sym (lead_one x (eqb-false (x / 64) 2 e))

-- a count n of the bytes in front of i, and what the rest adds
abbrev pub Counted : List ℕ → ℕ → ℕ → Type 0
Counted s i n = n + leads (drop i s) ≡ leads s

module _ (s : List ℕ) where
  pub counted_begin : Counted s 0 0
  counted_begin = omega arith

  pub counted_more : (i n r : ℕ) → Counted s i n → i < length s → r ≡ lead (get_or s i 0) → Counted s (i + 1) (n + r)
  unfolding leads
  counted_more i n r h l q =
      let e : leads (drop i s) ≡ lead (get_or s i 0) + leads (drop (i + 1) s) = rw (add-one, drop-cons s i 0) in
      omega arith

  pub counted_end : (i n : ℕ) → Counted s i n → i ≡ length s → n ≡ leads s
  unfolding leads
  counted_end i n h q =
      let e : leads (drop i s) ≡ 0 = rw (q, drop-length s) in
      omega arith

pub count_points : (s : List ℕ) (n : ℕ) → n ≡ leads s → well_formed s ≡ true → n ≡ code_points s
count_points s n q w = q ∙ sym (points_leads s w)
