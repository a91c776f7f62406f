-- Steps of the cursor: the facts that make an answer, and what an answer tells.
-- Assumes nothing.
use Prim.Native.Nat.{ℕ, zero, suc, ◌+◌, ◌*◌, ◌%◌, ◌≤◌, ◌<◌}
use mathlib.Core.Path.{◌≡◌, refl, ◌∙◌, ap}
use mathlib.Core.Bool.{Bool, true, false, ◌&&◌}
use mathlib.Core.List.{List}
use mathlib.Core.Logic.{◌⊎◌, inl, inr}
use native.Mathlib.Omega.{arith}
use native.Mathlib.Nat.{le_of_lt, mul-le-mul_left, mul-le-mul_right}
use Rattle.std.specs.Prelude.{Option, Some, None}
use lib.Dec.{leb, eqb}
use lib.ListN.{length, drop}
use borrow.Author.Tests.{eq-eqb, ne_eqb, le-leb, lt-leb, leb-true, leb-false}
use Rattle.wire.specs.Choice.{choose}
use Rattle.wire.specs.Number.{u32_at}
use Rattle.psv0_layout.specs.Layout.{records_fit}
use Rattle.psv0_layout.specs.Position.{next_counted, next_records, stride_at, first_record}
use Rattle.psv0_layout.proofs.Positions.{next_records_some, records_fit_at}
use Rattle.psv0_sections.specs.Steps.{reach, step_to, SmallStep, table_at}
use Rattle.psv0_sections.specs.declared.Cursor.{Cursor}
use Rattle.psv0_sections.specs.declared.Table.{Table}

-- ---- a choice of something or nothing
module _ {A : Type 0} (x : A) where
  chosen : (b : Bool) {y : A} → choose b (Some x) None ≡ Some y → (b ≡ true) × (y ≡ x)
  chosen true e = (refl, cc)
  chosen false e = absurd (cc)

  unchosen : (b : Bool) → choose b (Some x) None ≡ None → b ≡ false
  unchosen true e = absurd (cc)
  unchosen false e = refl

-- ---- the next position
module _ (d : List ℕ) (next : ℕ) where
  pub reached : next ≤ length d → Some (record { at = next }) ≡ reach d next
  unfolding reach
  reached h = simp (le-leb _ _ h)

  pub not_reached : length d < next → None ≡ reach d next
  unfolding reach
  not_reached h = simp (lt-leb _ _ h)

  pub of_reached : {c : Cursor} → reach d next ≡ Some c → (next ≤ length d) × (c ≡ record { at = next })
  unfolding reach
  of_reached e = let r = chosen _ (leb next (length d)) e in (leb-true _ _ r.0, r.1)

  pub of_unreached : reach d next ≡ None → length d < next
  unfolding reach
  of_unreached e = leb-false _ _ (unchosen _ (leb next (length d)) e)

-- what a step past something tells: the data reach the next position, the number and the cursor
pub record Reached (d : List ℕ) (n next m : ℕ) (c : Cursor) : Type 0 where
  pub inside : next ≤ length d
  pub number : m ≡ n
  pub place : c.at ≡ next

module _ (d : List ℕ) (n next : ℕ) where
  -- a step is a reach with a number
  pub step_past : {c : Cursor} → reach d next ≡ Some c → Some (n, c) ≡ step_to d n next
  unfolding step_to
  step_past e = let r = of_reached d next e in rw r.1 (simp (le-leb _ _ r.0))

  pub step_short : reach d next ≡ None → None ≡ step_to d n next
  unfolding step_to
  step_short e = simp (lt-leb _ _ (of_unreached d next e))

  pub of_past : (m : ℕ) (c : Cursor) → step_to d n next ≡ Some (m, c) → Reached d n next m c
  unfolding step_to
  of_past m c e =
      let r = chosen _ (leb next (length d)) e in
      record { inside = leb-true _ _ r.0; number = ap (λ (s : ℕ × Cursor). s.0) r.1; place = ap (λ (s : ℕ × Cursor). s.1.at) r.1 }

  pub of_short : step_to d n next ≡ None → length d < next
  unfolding step_to
  of_short e = leb-false _ _ (unchosen _ (leb next (length d)) e)

  -- a step's number fits four bytes where the number that it was given does
  pub step_small : n < 4294967296 → SmallStep (step_to d n next)
  unfolding step_to
  step_small h = go (leb next (length d))
    where
      go : (b : Bool) → SmallStep (choose {A = Option (ℕ × Cursor)} b (Some (n, record { at = next })) None)
      go true = h
      go false = tt

-- a field: the number of its four bytes
pub field_is : (d : List ℕ) (n m next : ℕ) (r : Option (ℕ × Cursor)) → r ≡ step_to d n next → n ≡ m → n < 4294967296 → (r ≡ step_to d m next) × SmallStep r
field_is d n m next r e q h = (e ∙ rw q, rw e (step_small d n next h))

module _ (d : List ℕ) (at n : ℕ) (q : n ≡ u32_at d at) (h : n < 4294967296) where
  pub field_past : {c : Cursor} → reach d (at + 4) ≡ Some c → (Some (n, c) ≡ step_to d (u32_at d at) (at + 4)) × SmallStep (Some (n, c))
  field_past e = field_is d n _ _ _ (step_past d n _ e) q h

pub field_short : (d : List ℕ) (at : ℕ) (r : Option (ℕ × Cursor)) → r ≡ None → reach d (at + 4) ≡ None → (r ≡ step_to d (u32_at d at) (at + 4)) × SmallStep r
field_short d at r e f = (e ∙ step_short d _ _ f, rw e tt)

pub small_of : {r : Option (ℕ × Cursor)} {m : ℕ} {c : Cursor} → r ≡ Some (m, c) → SmallStep r → m < 4294967296
small_of e s = rw e at s

pub product_fits : (m n : ℕ) → m < 4294967296 → n < 4294967296 → m * n < 18446744073709551616
product_fits m n h l = omega (arith, mul-le-mul_left m (le_of_lt l), mul-le-mul_right 4294967296 h)

-- ---- a counted section, after its count
module _ (u : ℕ) (d : List ℕ) (at : ℕ) where
  pub counted_short : step_to d (u32_at d at) (at + 4) ≡ None → None ≡ step_to d (u32_at d at) (next_counted u d at)
  unfolding step_to
  counted_short e =
      let l : length d < next_counted u d at = omega (arith, of_short d _ _ e) in
      simp (lt-leb _ _ l)

  module _ (m : ℕ) (c : Cursor) (e : step_to d (u32_at d at) (at + 4) ≡ Some (m, c)) where
    next_is : c.at + m * u ≡ next_counted u d at
    next_is = let r = of_past d _ _ m c e in rw (r.place, r.number)

    pub bytes_short : reach d (c.at + m * u) ≡ None → None ≡ step_to d (u32_at d at) (next_counted u d at)
    bytes_short f = step_short d _ _ (rw next_is at f)

    pub counted_past : (k : Cursor) → reach d (c.at + m * u) ≡ Some k → Some (m, k) ≡ step_to d (u32_at d at) (next_counted u d at)
    counted_past k f = rw (of_past d _ _ m c e).number (step_past d _ _ (rw next_is at f))

-- ---- records, after their size
pub table_none : (d : List ℕ) (n : ℕ) (c : Cursor) → n ≡ 0 → Some (record { first = c.at; stride = 0; next = c }) ≡ table_at n d c.at
unfolding table_at records_fit first_record stride_at next_records
table_none d n c e = rw e

some : (n : ℕ) → (n ≡ 0 → ⊥) → 0 < n
some zero h = absurd (h refl)
some (suc n) h = omega arith

first_some : (n at : ℕ) → 0 < n → first_record n at ≡ at + 4
unfolding first_record
first_some zero at h = absurd (omega arith)
first_some (suc n) at h = refl

stride_some : (n : ℕ) (d : List ℕ) (at : ℕ) → 0 < n → stride_at n d at ≡ u32_at d at
unfolding stride_at
stride_some zero d at h = absurd (omega arith)
stride_some (suc n) d at h = refl

pub table_short : (n : ℕ) (d : List ℕ) (at : ℕ) → (n ≡ 0 → ⊥) → step_to d (u32_at d at) (at + 4) ≡ None → None ≡ table_at n d at
unfolding table_at
table_short n d at h e = rw (records_fit_at d at n (some n h)) (simp (lt-leb _ _ (of_short d _ _ e)))

module _ (n : ℕ) (d : List ℕ) (at s : ℕ) (k : Cursor) (h : n ≡ 0 → ⊥) (e : step_to d (u32_at d at) (at + 4) ≡ Some (s, k)) where
  size : Reached d (u32_at d at) (at + 4) s k
  size = of_past d _ _ s k e

  next : next_records n d at ≡ k.at + n * s
  next = next_records_some n d at (some n h) ∙ rw (size.place, size.number)

  tests : records_fit n (drop at d) ≡ (eqb (s % 4) 0 && leb 16 s && leb (k.at + n * s) (length d))
  tests = rw (records_fit_at d at n (some n h), next, ← size.number) (simp (le-leb _ _ size.inside))

  pub table_cut : (s % 4 ≡ 0 → ⊥) ⊎ ((s % 4 ≡ 0) × (s < 16)) → None ≡ table_at n d at
  unfolding table_at
  table_cut (inl q) = rw tests (simp (ne_eqb _ _ q))
  table_cut (inr q) = rw tests (simp (eq-eqb _ _ q.0, lt-leb _ _ q.1))

  pub table_over : s % 4 ≡ 0 → 16 ≤ s → reach d (k.at + n * s) ≡ None → None ≡ table_at n d at
  unfolding table_at
  table_over q l f = rw tests (simp (eq-eqb _ _ q, le-leb _ _ l, lt-leb _ _ (of_unreached d _ f)))

  pub table_whole : s % 4 ≡ 0 → 16 ≤ s → (c : Cursor) → reach d (k.at + n * s) ≡ Some c
      → Some (record { first = k.at; stride = s; next = c }) ≡ table_at n d at
  unfolding table_at
  table_whole q l c f =
      let r = of_reached d _ f in
      rw (tests, first_some n at (some n h), stride_some n d at (some n h), next, ← size.number, ← size.place, r.1)
      (simp (eq-eqb _ _ q, le-leb _ _ l, le-leb _ _ r.0))

-- what records that were stepped over tell
pub record Stepped (n : ℕ) (d : List ℕ) (at : ℕ) (t : Table) : Type 0 where
  pub fits : records_fit n (drop at d) ≡ true
  pub is : t ≡ record { first = first_record n at; stride = stride_at n d at; next = record { at = next_records n d at } }

module _ (n : ℕ) (d : List ℕ) (at : ℕ) where
  pub of_whole : (t : Table) → table_at n d at ≡ Some t → Stepped n d at t
  unfolding table_at
  of_whole t e = let r = chosen _ (records_fit n (drop at d)) e in record { fits = r.0; is = r.1 }

  pub of_cut : table_at n d at ≡ None → records_fit n (drop at d) ≡ false
  unfolding table_at
  of_cut e = unchosen _ (records_fit n (drop at d)) e
