-- Sections that fit, laid out again, are the bytes that they were read from.
-- Assumes nothing.
use Prim.Native.Nat.{ℕ, zero, suc, ◌*◌, ◌/◌, ◌≤◌}
use mathlib.Core.Path.{◌≡◌, refl, ◌∙◌}
use mathlib.Core.Bool.{true}
use mathlib.Core.List.{List, ◌++◌}
use native.Mathlib.Omega.{arith}
use native.Mathlib.Nat.{mul-one}
use lib.Dec.{leb}
use lib.ListN.{length, drop, take-append-drop}
use borrow.Author.Tests.{leb-true}
use Rattle.wire.specs.Number.{u32_at, le32, Bytes}
use Rattle.wire.specs.Verdict.{Accepted}
use Rattle.wire.proofs.Choices.{both}
use Rattle.wire.proofs.Numbers.{le32_u32, bytes_drop}
use Rattle.wire.proofs.Verdicts.{check_accepted, check_then}
use Rattle.psv0_layout.specs.Field.{element_total, mask_bytes_of}
use Rattle.psv0_layout.specs.Judged.{head_judged, body_fits}
use Rattle.psv0_layout.specs.Laid.{rows_laid, records_laid, head_laid, body_laid}
use Rattle.psv0_layout.specs.Layout.{counted, after_counted, counted_fits, records, after_records, records_fit, runtime_of, guide_of, resource_count_of, after1, after2, after3, after4, after5, sections}
use Rattle.psv0_layout.proofs.Wholes.{counted_length, records_count, records_fit_lem}

-- ---- one section
counted_again : (u : ℕ) (l : List ℕ) → Bytes l → counted_fits u l ≡ true → le32 (u32_at l 0) ++ (counted u l ++ after_counted u l) ≡ l
unfolding counted_fits counted after_counted
counted_again u l b e =
    let h : 4 ≤ length l = leb-true _ _ (both (leb 4 (length l)) _ e).0 in
    simp (take-append-drop, le32_u32 l b h)

records_again : (n : ℕ) (l : List ℕ) → Bytes l → records_fit n l ≡ true → records_laid (records n l) (after_records n l) ≡ l
unfolding records after_records records_laid rows_laid
records_again zero l b e = refl
records_again (suc n) l b e = let h : 4 ≤ length l = (records_fit_lem n l e).size in simp (take-append-drop, le32_u32 l b h)

bytes_after_counted : (u : ℕ) (l : List ℕ) → Bytes l → Bytes (after_counted u l)
unfolding after_counted
bytes_after_counted u l b = bytes_drop (drop 4 l) (u32_at l 0 * u) (bytes_drop l 4 b)

bytes_after_records : (n : ℕ) (l : List ℕ) → Bytes l → Bytes (after_records n l)
unfolding after_records
bytes_after_records zero l b = b
bytes_after_records (suc n) l b = bytes_drop (drop 4 l) (suc n * u32_at l 0) (bytes_drop l 4 b)

-- ---- all six
module _ (d : List ℕ) (b : Bytes d) where
  bytes1 : Bytes (after1 d)
  bytes1 = bytes_after_counted 1 d b

  bytes2 : Bytes (after2 d)
  bytes2 = bytes_after_records _ _ (bytes_drop (after1 d) 4 bytes1)

  pub head_again : head_judged d ≡ Accepted → head_laid (sections d) (after2 d) ≡ d
  unfolding head_judged head_laid sections
  head_again e =
      let (c12, e1) = check_then _ _ _ _ e in
      let (c13, e2) = check_then _ _ _ _ e1 in
      let (c4, fit) = both (leb 4 (length (after1 d))) _ (check_accepted _ _ _ e2) in
      let size : length (runtime_of d) ≡ u32_at d 0 = counted_length 1 d c13 ∙ mul-one _ in
      let count : (records (resource_count_of d) (drop 4 (after1 d))).count ≡ resource_count_of d = records_count _ _ in
      let two = records_again (resource_count_of d) (drop 4 (after1 d)) (bytes_drop (after1 d) 4 bytes1) fit in
      rw (two, size, count, le32_u32 (after1 d) bytes1 (leb-true _ _ c4), take-append-drop) (counted_again 1 d b c13)

  pub body_again : body_fits (after2 d) (element_total (guide_of d)) (mask_bytes_of (guide_of d)) ≡ Accepted
      → body_laid (sections d) (drop (mask_bytes_of (guide_of d)) (after5 d)) ≡ after2 d
  unfolding body_fits body_laid sections
  body_again e =
      let (c18, e1) = check_then _ _ _ _ e in
      let (c19, e2) = check_then _ _ _ _ e1 in
      let (c20, e3) = check_then _ _ _ _ e2 in
      let (fit, four) = both (counted_fits 1 (after2 d)) _ c18 in
      let bytes3 = bytes_after_counted 1 _ bytes2 in
      let bytes4 = bytes_after_counted 4 _ bytes3 in
      let l3 : length (counted 1 (after2 d)) ≡ u32_at (after2 d) 0 = counted_length 1 _ fit ∙ mul-one _ in
      let l4 : length (counted 4 (after3 d)) ≡ u32_at (after3 d) 0 * 4 = counted_length 4 _ c19 in
      let count : length (counted 4 (after3 d)) / 4 ≡ u32_at (after3 d) 0 = omega arith in
      rw (l3, count, take-append-drop, records_again _ (after4 d) bytes4 c20, counted_again 4 (after3 d) bytes3 c19)
      (counted_again 1 (after2 d) bytes2 fit)
