-- What is read of sections that are laid out one after the other.
-- Assumes nothing.
use Prim.Native.Nat.{ℕ, suc, ◌*◌, ◌/◌, ◌%◌, ◌≤◌, ◌<◌}
use mathlib.Core.Path.{◌≡◌, refl, sym}
use mathlib.Core.Bool.{true}
use mathlib.Core.List.{List, [], ◌++◌}
use native.Mathlib.Omega.{arith}
use native.Mathlib.Nat.{mul-one}
use lib.ListN.{length, take, drop, length-append}
use lib.Seq.{take_at, drop_at}
use borrow.Author.Tests.{le-leb, eq-eqb}
use Rattle.constants.specs.Edition.{size_of}
use Rattle.wire.specs.Number.{u32_at, le32}
use Rattle.wire.specs.Verdict.{◌then◌, check, from, Accepted}
use Rattle.wire.proofs.Numbers.{le32_length, u32_le32}
use Rattle.psv0_layout.specs.Field.{element_total, mask_bytes_of}
use Rattle.psv0_layout.specs.Judged.{head_judged, fields_judged, body_fits, elements_judged, entry_judged, judged_at}
use Rattle.psv0_layout.specs.Laid.{rows_laid, records_laid, head_laid, body_laid}
use Rattle.psv0_layout.specs.Layout.{Records, Sections, counted, after_counted, counted_fits, records, after_records, records_fit, runtime_of, guide_of, resource_count_of, after1, after2, after3, after4, after5, sections, seen}

drop_le32 : (n : ℕ) (l : List ℕ) → drop 4 (le32 n ++ l) ≡ l
drop_le32 n l = drop_at (le32 n) l 4 (le32_length n)

-- ---- a count n, and the bytes a: u for each
module _ (u n : ℕ) (a l : List ℕ) (e : length a ≡ n * u) (h : n < 4294967296) where
  pub counted_laid : counted u (le32 n ++ (a ++ l)) ≡ a
  unfolding counted
  counted_laid = rw (u32_le32 n (a ++ l) h, drop_le32) (take_at a l (n * u) e)

  pub after_counted_laid : after_counted u (le32 n ++ (a ++ l)) ≡ l
  unfolding after_counted
  after_counted_laid = rw (u32_le32 n (a ++ l) h, drop_le32) (drop_at a l (n * u) e)

  pub counted_fits_laid : counted_fits u (le32 n ++ (a ++ l)) ≡ true
  unfolding counted_fits
  counted_fits_laid =
      let four : 4 ≤ length (le32 n ++ (a ++ l)) = simp (length-append, le32_length) (omega arith) in
      let fits : n * u ≤ length (a ++ l) = simp length-append (omega arith) in
      simp (le-leb _ _ four, u32_le32 n (a ++ l) h, drop_le32, le-leb _ _ fits)

-- ---- records that are whole: the stated size is allowed, and the bytes are those of all records
pub data WholeRecords : Records → Type 0 where
  none : WholeRecords (record { count = 0; stride = 0; bytes = [] })
  some : (n s : ℕ) (b : List ℕ)
      → s % 4 ≡ 0 → 16 ≤ s → s < 4294967296 → length b ≡ suc n * s
      → WholeRecords (record { count = suc n; stride = s; bytes = b })

pub records_laid_lem : {t : Records} (l : List ℕ) → WholeRecords t → records t.count (records_laid t l) ≡ t
unfolding records records_laid rows_laid
records_laid_lem l none = refl
records_laid_lem l (some n s b four least small e) = simp (u32_le32 s (b ++ l) small, drop_le32, take_at b l (suc n * s) e)

pub after_records_laid : {t : Records} (l : List ℕ) → WholeRecords t → after_records t.count (records_laid t l) ≡ l
unfolding after_records records_laid rows_laid
after_records_laid l none = refl
after_records_laid l (some n s b four least small e) = simp (u32_le32 s (b ++ l) small, drop_le32, drop_at b l (suc n * s) e)

pub records_fit_laid : {t : Records} (l : List ℕ) → WholeRecords t → records_fit t.count (records_laid t l) ≡ true
unfolding records_fit records_laid rows_laid
records_fit_laid l none = refl
records_fit_laid l (some n s b four least small e) =
    let size : 4 ≤ length (le32 s ++ (b ++ l)) = simp (length-append, le32_length) (omega arith) in
    let fits : suc n * s ≤ length (b ++ l) = simp length-append (omega arith) in
    simp (le-leb _ _ size, u32_le32 s (b ++ l) small, drop_le32, eq-eqb _ _ four, le-leb _ _ least, le-leb _ _ fits)

-- ---- sections 1 and 2
pub record WholeHead (s : Sections) : Type 0 where
  pub four : length s.runtime % 4 ≡ 0
  pub least : 24 ≤ length s.runtime
  pub small : length s.runtime < 4294967296
  pub resources : WholeRecords s.resources
  pub few : s.resources.count < 4294967296

module _ (s : Sections) (l : List ℕ) (w : WholeHead s) where
  pub head_size : u32_at (head_laid s l) 0 ≡ length s.runtime
  unfolding head_laid
  head_size = u32_le32 _ _ w.small

  each_byte : length s.runtime ≡ length s.runtime * 1
  each_byte = sym (mul-one _)

  pub head_runtime : runtime_of (head_laid s l) ≡ s.runtime
  unfolding head_laid
  head_runtime = counted_laid 1 _ s.runtime _ each_byte w.small

  head_after1 : after1 (head_laid s l) ≡ le32 s.resources.count ++ records_laid s.resources l
  unfolding head_laid
  head_after1 = after_counted_laid 1 _ s.runtime _ each_byte w.small

  head_count : resource_count_of (head_laid s l) ≡ s.resources.count
  head_count = rw head_after1 (u32_le32 _ _ w.few)

  head_records : drop 4 (after1 (head_laid s l)) ≡ records_laid s.resources l
  head_records = rw head_after1 (drop_le32 _ _)

  pub head_resources : (sections (head_laid s l)).resources ≡ s.resources
  unfolding sections
  head_resources = rw (head_count, head_records) (records_laid_lem l w.resources)

  pub head_after2 : after2 (head_laid s l) ≡ l
  head_after2 = rw (head_count, head_records) (after_records_laid l w.resources)

  pub head_accepted : head_judged (head_laid s l) ≡ Accepted
  unfolding head_judged ◌then◌ check
  head_accepted =
      let h0 : 4 ≤ length (head_laid s l) = unfold head_laid in simp (length-append, le32_length) (omega arith) in
      let h1 : counted_fits 1 (head_laid s l) ≡ true = unfold head_laid in counted_fits_laid 1 _ s.runtime _ each_byte w.small in
      let h2 : 4 ≤ length (after1 (head_laid s l)) = rw head_after1 (simp (length-append, le32_length) (omega arith)) in
      let h3 : records_fit (resource_count_of (head_laid s l)) (drop 4 (after1 (head_laid s l))) ≡ true =
      rw (head_count, head_records) (records_fit_laid l w.resources) in
      simp (le-leb _ _ h0, head_size, eq-eqb _ _ w.four, le-leb _ _ w.least, h1, le-leb _ _ h2, h3)

-- ---- sections 3 to 6, where what is left after section 2 is their layout
pub record WholeBody (s : Sections) : Type 0 where
  pub strings4 : length s.strings % 4 ≡ 0
  pub strings_small : length s.strings < 4294967296
  pub indices4 : length s.indices % 4 ≡ 0
  pub indices_small : length s.indices < 4294967296
  pub elements : WholeRecords s.elements
  pub counts : s.elements.count ≡ element_total (take (size_of 1) s.runtime)
  pub masks : length s.masks ≡ mask_bytes_of (take (size_of 1) s.runtime)

module _ (d t : List ℕ) (s : Sections) (w : WholeBody s) (er : runtime_of d ≡ s.runtime) (e2 : after2 d ≡ body_laid s t) where
  each_string : length s.strings ≡ length s.strings * 1
  each_string = sym (mul-one _)

  each_index : length s.indices ≡ length s.indices / 4 * 4
  each_index = omega (arith, w.indices4)

  few_indices : length s.indices / 4 < 4294967296
  few_indices = omega (arith, w.indices_small)

  pub body_strings : counted 1 (after2 d) ≡ s.strings
  body_strings = rw e2 (unfold body_laid in counted_laid 1 _ s.strings _ each_string w.strings_small)

  body_after3 : after3 d ≡ le32 (length s.indices / 4) ++ (s.indices ++ records_laid s.elements (s.masks ++ t))
  body_after3 = rw e2 (unfold body_laid in after_counted_laid 1 _ s.strings _ each_string w.strings_small)

  pub body_indices : counted 4 (after3 d) ≡ s.indices
  body_indices = rw body_after3 (counted_laid 4 _ s.indices _ each_index few_indices)

  body_after4 : after4 d ≡ records_laid s.elements (s.masks ++ t)
  body_after4 = rw body_after3 (after_counted_laid 4 _ s.indices _ each_index few_indices)

  body_count : element_total (guide_of d) ≡ s.elements.count
  body_count = rw er (sym w.counts)

  pub body_elements : records (element_total (guide_of d)) (after4 d) ≡ s.elements
  body_elements = rw (body_count, body_after4) (records_laid_lem _ w.elements)

  pub body_after5 : after5 d ≡ s.masks ++ t
  body_after5 = rw (body_count, body_after4) (after_records_laid _ w.elements)

  pub mask_size : mask_bytes_of (guide_of d) ≡ length s.masks
  mask_size = rw er (sym w.masks)

  pub body_masks : take (mask_bytes_of (guide_of d)) (after5 d) ≡ s.masks
  body_masks = rw (mask_size, body_after5) (take_at s.masks t _ refl)

  pub body_accepted : body_fits (after2 d) (element_total (guide_of d)) (mask_bytes_of (guide_of d)) ≡ Accepted
  unfolding body_fits ◌then◌ check
  body_accepted =
      let h1 : counted_fits 1 (after2 d) ≡ true =
      rw e2 (unfold body_laid in counted_fits_laid 1 _ s.strings _ each_string w.strings_small) in
      let h2 : u32_at (after2 d) 0 ≡ length s.strings = rw e2 (unfold body_laid in u32_le32 _ _ w.strings_small) in
      let h3 : counted_fits 4 (after3 d) ≡ true = rw body_after3 (counted_fits_laid 4 _ s.indices _ each_index few_indices) in
      let h4 : records_fit (element_total (guide_of d)) (after4 d) ≡ true = rw (body_count, body_after4) (records_fit_laid _ w.elements) in
      let h5 : mask_bytes_of (guide_of d) ≤ length (after5 d) = rw (mask_size, body_after5) (simp length-append (omega arith)) in
      simp (h1, h2, eq-eqb _ _ w.strings4, h3, h4, le-leb _ _ h5)

-- ---- all six
module _ (s : Sections) (t : List ℕ) (h : WholeHead s) (b : WholeBody s) where
  -- what is laid out reads back
  pub read_back : sections (head_laid s (body_laid s t)) ≡ s
  unfolding sections
  read_back =
      let d = head_laid s (body_laid s t) in
      let p = head_runtime s (body_laid s t) h in
      let q = head_after2 s (body_laid s t) h in
      λ i.
      record {
        runtime = p i;
        resources = head_resources s (body_laid s t) h i;
        strings = body_strings d t s b p q i;
        indices = body_indices d t s b p q i;
        elements = body_elements d t s b p q i;
        masks = body_masks d t s b p q i;
      }

  -- and is judged by its fields and references alone
  pub judged_laid : (er : ℕ)
      → judged_at er (head_laid s (body_laid s t))
      ≡ from 1 er (fields_judged (seen 1 s).runtime then elements_judged (seen 1 s).body then from 3 er (entry_judged (seen 3 s)))
  unfolding judged_at
  judged_laid er =
      let d = head_laid s (body_laid s t) in
      let f : body_fits (after2 d) (element_total (guide_of d)) (mask_bytes_of (guide_of d)) ≡ Accepted =
      body_accepted d t s b (head_runtime s (body_laid s t) h) (head_after2 s (body_laid s t) h) in
      rw (head_accepted s (body_laid s t) h, f, read_back) (unfold ◌then◌ in refl)
