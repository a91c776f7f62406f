-- The references of records, one after the other, and whether one passes.
-- Assumes nothing.
use Prim.Native.Nat.{ℕ, ◌+◌, ◌*◌, ◌≤◌, ◌<◌, min}
use mathlib.Core.Path.{◌≡◌, refl, sym, ◌∙◌, ap}
use mathlib.Core.Bool.{Bool, true, false, not}
use mathlib.Core.List.{List}
use native.Mathlib.Omega.{arith}
use native.Mathlib.Nat.{zero-mul, suc-mul}
use native.Mathlib.Numerals.{add-one}
use lib.Dec.{ltb}
use lib.ListN.{length}
use borrow.Author.Tests.{ltb-true, ltb-false, lt-ltb, le-ltb, eq-eqb, ne_eqb}
use Rattle.wire.specs.Number.{u32_at}
use Rattle.psv0_layout.specs.Position.{reference_at}
use Rattle.psv0_layout.specs.Reference.{string_good}
use Rattle.psv0_layout.proofs.References.{and_false, string_past}
use Rattle.utf8.specs.Referred.{passes}

-- ---- where a record starts: at most at the end, so that any stride will do
abbrev pub Place : List ℕ → ℕ → ℕ → ℕ → Type 0
Place e stride i at = at ≡ min (i * stride) (length e)

-- past the end every number is 0
u32_past : (e : List ℕ) (x : ℕ) → length e ≤ x → u32_at e x ≡ 0
unfolding u32_at
u32_past e x h =
    rw (
      string_past e x h,
      string_past e (x + 1) (omega arith),
      string_past e (x + 2) (omega arith),
      string_past e (x + 3) (omega arith),
    )

near : (e : List ℕ) (x at : ℕ) → at ≡ min x (length e) → u32_at e at ≡ u32_at e x
near e x at h = go (ltb x (length e)) refl
  where
    go : (t : Bool) → ltb x (length e) ≡ t → u32_at e at ≡ u32_at e x
    go true q = let l = ltb-true x (length e) q in ap (u32_at e) (omega arith)
    go false q = let l = ltb-false x (length e) q in u32_past e at (omega arith) ∙ sym (u32_past e x l)

module _ (e : List ℕ) (stride : ℕ) where
  pub place_begin : Place e stride 0 0
  place_begin = rw zero-mul (omega arith)

  pub place_more : (i at r : ℕ) → Place e stride i at → r ≡ min (at + stride) (length e) → Place e stride (i + 1) r
  place_more i at r h q = let s : (i + 1) * stride ≡ i * stride + stride = rw (add-one i) (suc-mul i stride) in omega arith

  -- the reference there, or past the records the last
  pub record_read : (count last i at o : ℕ) → Place e stride i at → i < count → o ≡ u32_at e at → o ≡ reference_at e stride count last i
  unfolding reference_at
  record_read count last i at o h l q = rw (lt-ltb i count l) (q ∙ near e (i * stride) at h)

  pub last_read : (count last i o : ℕ) → count ≤ i → o ≡ last → o ≡ reference_at e stride count last i
  unfolding reference_at
  last_read count last i o l q = rw (le-ltb i count l) q

-- ---- whether a reference passes
module _ (t : List ℕ) (free : Bool) (o : ℕ) where
  pub passes_free : free ≡ true → o ≡ 0 → true ≡ passes t free o
  unfolding passes
  passes_free f z = rw (f, eq-eqb o 0 z)

  -- one that has to be good: none is free, or this one refers to something
  pub passes_bound : (r : Bool) → free ≡ false → r ≡ string_good t o → r ≡ passes t free o
  unfolding passes
  passes_bound r f q = rw f q

  pub passes_named : (r : Bool) → (o ≡ 0 → ⊥) → r ≡ string_good t o → r ≡ passes t free o
  unfolding passes
  passes_named r z q = rw (ne_eqb o 0 z, and_false free) q

-- ---- the search's test
abbrev pub ill : List ℕ → Bool → List ℕ → ℕ → ℕ → ℕ → ℕ → Bool
ill t free e stride count last i = not (passes t free (reference_at e stride count last i))

pub ill_is : (t : List ℕ) (free : Bool) (e : List ℕ) (stride count last i o : ℕ) (r : Bool) → o ≡ reference_at e stride count last i
    → r ≡ passes t free o → ill t free e stride count last i ≡ not r
ill_is t free e stride count last i o r h q = rw (← h, ← q)
