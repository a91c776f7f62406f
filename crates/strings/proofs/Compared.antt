-- Two strings, byte by byte: what a walk along both has still to compare.
-- Assumes nothing.
use Prim.Native.Nat.{ℕ, zero, suc, ◌+◌, ◌-◌, ◌≤◌, ◌<◌}
use mathlib.Core.Path.{◌≡◌, refl, sym, ap, ◌∙◌}
use mathlib.Core.Bool.{Bool, true, false}
use mathlib.Core.List.{List}
use mathlib.Core.Logic.{◌⊎◌, ⊎_elim}
use native.Mathlib.Omega.{arith}
use native.Mathlib.Numerals.{add-one}
use native.Mathlib.Nat.{add-zero}
use lib.Dec.{eqb, ltb}
use lib.ListN.{length, get_or, drop, length-drop}
use borrow.Author.Tests.{eq-eqb, ne_eqb, eqb-true, eqb-false, ltb-true, ltb-false}
use Rattle.std.specs.Prelude.{Option, Some, None, unwrap_or}
use Rattle.memchr.specs.Find.{IsFirstByte, is_byte}
use Rattle.std.proofs.lemmas.List.{get_or-drop}
use Rattle.wire.specs.Stretch.{same_bytes}
use Rattle.psv0_layout.specs.Position.{NoZero}
use Rattle.psv0_layout.specs.Reference.{string_at}
use Rattle.psv0_layout.proofs.References.{string_stops, string_goes, string_past}

-- a byte that is not zero stands inside
pub byte_inside : (t : List ℕ) (i : ℕ) → (get_or t i 0 ≡ 0 → ⊥) → i < length t
byte_inside t i f = go (ltb i (length t)) refl
  where
    go : (s : Bool) → ltb i (length t) ≡ s → i < length t
    go true e = ltb-true i (length t) e
    go false e = absurd (f (string_past t i (ltb-false i (length t) e)))

-- the string at i of a and the string at j of c
module _ (a c : List ℕ) (i j : ℕ) where
  -- both go on with one byte
  pub same_goes : (get_or a i 0 ≡ 0 → ⊥) → get_or a i 0 ≡ get_or c j 0
      → same_bytes (string_at a i) (string_at c j) ≡ same_bytes (string_at a (i + 1)) (string_at c (j + 1))
  unfolding same_bytes
  same_goes f e =
      let g : get_or c j 0 ≡ 0 → ⊥ = λ q. f (e ∙ q) in
      rw (string_goes a i f, string_goes c j g, add-one, add-one, eq-eqb _ _ e)

  -- both end
  pub same_stops : get_or a i 0 ≡ 0 → get_or c j 0 ≡ 0 → same_bytes (string_at a i) (string_at c j) ≡ true
  unfolding same_bytes
  same_stops e q = rw (string_stops a i e, string_stops c j q)

  -- they differ in a byte, or one ends
  pub same_not : (get_or a i 0 ≡ get_or c j 0 → ⊥) → same_bytes (string_at a i) (string_at c j) ≡ false
  unfolding same_bytes
  same_not f = go (eqb (get_or a i 0) 0) (eqb (get_or c j 0) 0) refl refl
    where
      go : (s t : Bool) → eqb (get_or a i 0) 0 ≡ s → eqb (get_or c j 0) 0 ≡ t → same_bytes (string_at a i) (string_at c j) ≡ false
      go true true p q = absurd (f (eqb-true _ _ p ∙ sym (eqb-true _ _ q)))
      go true false p q = rw (string_stops a i (eqb-true _ _ p), string_goes c j (eqb-false _ _ q))
      go false true p q = rw (string_goes a i (eqb-false _ _ p), string_stops c j (eqb-true _ _ q))
      go false false p q = rw (string_goes a i (eqb-false _ _ p), string_goes c j (eqb-false _ _ q), ne_eqb _ _ f)

  -- the first has ended: they are the same exactly where the second has
  pub same_end : get_or a i 0 ≡ 0 → eqb (get_or c j 0) 0 ≡ same_bytes (string_at a i) (string_at c j)
  same_end e = go (eqb (get_or c j 0) 0) refl
    where
      go : (s : Bool) → eqb (get_or c j 0) 0 ≡ s → s ≡ same_bytes (string_at a i) (string_at c j)
      go true q = sym (same_stops e (eqb-true _ _ q))
      go false q = sym (same_not (λ h. eqb-false _ _ q (sym h ∙ e)))

-- a string of k bytes, and one that goes up to r: a zero byte, or the end
string_runs : (t : List ℕ) (o k : ℕ) → NoZero t o (o + k) → get_or t (o + k) 0 ≡ 0 → k ≡ length (string_at t o)
string_runs t o zero f e = rw (string_stops t o (rw add-zero at e))
string_runs t o (suc k) f e =
    let q : suc o + k ≡ o + suc k = omega arith in
    rw (string_goes t o (f o (omega arith) (omega arith)))
    (ap suc (string_runs t (suc o) k (λ j a b. f j (omega arith) (omega arith)) (rw q e)))

pub string_length : (t : List ℕ) (o r : ℕ) → o ≤ r → NoZero t o r → (r ≡ length t) ⊎ (get_or t r 0 ≡ 0) → r - o ≡ length (string_at t o)
string_length t o r h f e =
    let q : o + (r - o) ≡ r = omega arith in
    string_runs t o (r - o) (rw q f) (rw q (⊎_elim (λ l. string_past t r (omega arith)) (λ z. z) e))

-- from o on, the first zero byte of d stands at r, or there is none
pub string_found : (t : List ℕ) (o : ℕ) → o < length t → {d : List ℕ} → d ≡ drop o t → (r : Option ℕ) → IsFirstByte (is_byte 0) d r
    → unwrap_or r (length d) ≡ length (string_at t o)
string_found t o h {d} q r f = go r f
  where
    l : length d ≡ length t - o
    l = ap length q ∙ length-drop o t

    byte : (k : ℕ) → get_or d k 0 ≡ get_or t (o + k) 0
    byte k = ap (λ (x : List ℕ). get_or x k 0) q ∙ get_or-drop o t k 0

    zero_there : (j : ℕ) → o ≤ j → get_or t j 0 ≡ 0 → eqb (get_or d (j - o) 0) 0 ≡ true
    zero_there j a e = let i : o + (j - o) ≡ j = omega arith in eq-eqb _ _ (byte (j - o) ∙ rw i e)

    go : (r : Option ℕ) → IsFirstByte (is_byte 0) d r → unwrap_or r (length d) ≡ length (string_at t o)
    go None f = string_runs t o (length d) (λ j a b e. f (j - o) (omega arith) (omega arith) (zero_there j a e)) (string_past t _ (omega (arith, l)))
    go (Some k) f = string_runs t o k (λ j a b e. f.0.before (j - o) (omega arith) (omega arith) (zero_there j a e)) (sym (byte k) ∙ eqb-true _ _ f.1)
