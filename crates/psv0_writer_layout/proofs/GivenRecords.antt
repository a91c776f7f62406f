-- Records that are given as bytes: they are whole, they are laid out as their bytes, and whole records are those of their bytes.
-- Assumes nothing.
use Prim.Native.Nat.{ℕ, zero, suc, ◌*◌, ◌/◌, ◌%◌, ◌≤◌, ◌<◌}
use mathlib.Core.Path.{◌≡◌, refl, sym, ◌∙◌, ap}
use mathlib.Core.Bool.{Bool, true, false}
use mathlib.Core.List.{List, [], ◌∷◌, ◌++◌}
use native.Mathlib.Omega.{arith}
use native.Mathlib.Nat.{add-zero, suc-mul, zero-mul, zero-div, div-add-mod', mul-div_cancel}
use lib.Dec.{leb, eqb}
use lib.ListN.{length}
use borrow.Author.Tests.{ne_eqb}
use Rattle.wire.specs.Choice.{choose}
use Rattle.psv0_layout.specs.Laid.{rows_laid, records_laid}
use Rattle.psv0_layout.specs.Layout.{Records, rows}
use Rattle.psv0_layout.proofs.Layouts.{WholeRecords, none, some}
use Rattle.psv0_writer_layout.specs.Stretch.{size_field}
use Rattle.psv0_writer_layout.specs.Written.{resource_size_of, records_from}

pub empty : (l : List ℕ) → length l ≡ 0 → l ≡ []
empty [] h = refl
empty (x ∷ l) h = absurd (omega arith)

-- a record size that a reader takes
pub record RecordSize (s : ℕ) : Type 0 where
  pub four : s % 4 ≡ 0
  pub least : 16 ≤ s
  pub small : s < 4294967296

pub element_size : RecordSize 16
element_size = record { four = refl; least = omega arith; small = omega arith }

pub resource_size_lem : (e : ℕ) → RecordSize (resource_size_of e)
resource_size_lem e = go (leb 2 e)
  where
    go : (t : Bool) → RecordSize (choose t 24 16)
    go true = record { four = refl; least = omega arith; small = omega arith }
    go false = element_size

-- records of the count n
abbrev counted_from : ℕ → ℕ → List ℕ → Records
counted_from s n b = record { count = n; stride = choose (eqb n 0) 0 s; bytes = b }

module _ {s : ℕ} (size : RecordSize s) where
  -- ---- bytes that are whole records
  module _ (b : List ℕ) (whole : length b % s ≡ 0) where
    all : length b ≡ length b / s * s
    all = sym (rw (whole, add-zero) at (div-add-mod' (length b) s))

    pub whole_from : WholeRecords (records_from s b)
    unfolding records_from
    whole_from = go (length b / s) all
      where
        go : (n : ℕ) → length b ≡ n * s → WholeRecords (counted_from s n b)
        go zero e = rw (empty b (e ∙ zero-mul s)) none
        go (suc n) e = simp (ne_eqb (suc n) 0 (λ z. omega arith)) (some n s b size.four size.least size.small e)

    pub laid_from : (l : List ℕ) → records_laid (records_from s b) l ≡ size_field s b ++ (b ++ l)
    unfolding records_from records_laid rows_laid
    laid_from l = go (length b / s) all
      where
        go : (n : ℕ) → length b ≡ n * s → rows_laid n (choose (eqb n 0) 0 s) b l ≡ size_field s b ++ (b ++ l)
        go zero e = rw (empty b (e ∙ zero-mul s))
        go (suc n) e =
            let some : length b ≡ 0 → ⊥ = λ z. omega (arith, suc-mul n s, size.least) in
            simp (ne_eqb (suc n) 0 (λ z. omega arith), ne_eqb (length b) 0 some)

  -- ---- any bytes
  pub rows_from_lem : (b : List ℕ) → rows 16 (records_from s b).count (records_from s b).stride (records_from s b).bytes ≡ rows 16 (length b / s) s b
  unfolding records_from
  rows_from_lem b = go (length b / s)
    where
      go : (n : ℕ) → rows 16 n (choose (eqb n 0) 0 s) b ≡ rows 16 n s b
      go zero = unfold rows in refl
      go (suc n) = simp (ne_eqb (suc n) 0 (λ z. omega arith))

  pub stride_from : (b : List ℕ) → 0 < (records_from s b).count → (records_from s b).stride ≡ s
  unfolding records_from
  stride_from b h = simp (ne_eqb (length b / s) 0 (λ z. omega arith))

  -- ---- whole records of that size
  pub from_whole : {t : Records} → WholeRecords t → (0 < t.count → t.stride ≡ s) → records_from s t.bytes ≡ t
  unfolding records_from
  from_whole none h = rw zero-div
  from_whole (some n s' b four least small e) h =
      let q : s' ≡ s = h (omega arith) in
      let pos : 0 < s = omega (arith, size.least) in
      let c : length b / s ≡ suc n = rw (e, q) (mul-div_cancel (suc n) pos) in
      rw (c, q) (simp (ne_eqb (suc n) 0 (λ z. omega arith)))

  pub whole_length : {t : Records} → WholeRecords t → (0 < t.count → t.stride ≡ s) → length t.bytes ≡ t.count * s
  whole_length none h = sym (zero-mul s)
  whole_length (some n s' b four least small e) h = e ∙ ap (λ (m : ℕ). suc n * m) (h (omega arith))
