-- What is read section after section, by its position in the data: every list that is read of d is a part of d.
-- Assumes nothing.
use Prim.Native.Nat.{ℕ, zero, suc, ◌+◌, ◌-◌, ◌*◌, ◌%◌, ◌≤◌, ◌<◌}
use mathlib.Core.Path.{◌≡◌, refl, sym, ◌∙◌, ap}
use mathlib.Core.Bool.{Bool, true, false, ◌&&◌}
use mathlib.Core.List.{List, [], ◌∷◌}
use native.Mathlib.Omega.{arith}
use native.Mathlib.Nat.{suc-mul, mul-one, zero-mul, add_assoc, add-zero, mul-le-mul_right}
use lib.Dec.{leb, eqb}
use lib.ListN.{length, get_or, take, drop, length-drop}
use lib.Seq.{take-take, drop-drop, get_or-take, get_or-drop}
use borrow.Author.Tests.{le-leb, lt-leb, leb-true, leb-false}
use Rattle.constants.specs.Edition.{size_of}
use Rattle.wire.specs.Number.{u16_at, u32_at}
use Rattle.wire.specs.Verdict.{◌then◌, check}
use Rattle.wire.proofs.Choices.{both}
use Rattle.wire.proofs.Numbers.{u32_take, u32_drop}
use Rattle.psv0_layout.specs.Field.{element_total, mask_words_of, sum, mask_bytes_of}
use Rattle.psv0_layout.specs.Judged.{head_judged, body_fits}
use Rattle.psv0_layout.specs.Layout.{counted, after_counted, counted_fits, records, after_records, records_fit, rows, runtime_of, guide_of, resource_count_of, after1, after2, after3, after4, after5, sections, body_of, resource_width, seen}
use Rattle.psv0_layout.specs.Position.{next_counted, next_records, resources_start, strings_start, indices_start, elements_start, masks_start}
use Rattle.psv0_layout.specs.Shown.{mask_at}
use Rattle.psv0_layout.proofs.Masks.{sum_inside}
use Rattle.psv0_layout.proofs.Wholes.{records_count, width_fits}

-- ---- a part of d: w bytes from position p on
module _ (d : List ℕ) (p w o : ℕ) where
  pub part_byte : o < w → get_or (take w (drop p d)) o 0 ≡ get_or d (p + o) 0
  part_byte h = rw (get_or-take w (drop p d) o 0 h, get_or-drop)

  pub part_u32 : o + 4 ≤ w → u32_at (take w (drop p d)) o ≡ u32_at d (p + o)
  part_u32 h = rw (u32_take w (drop p d) o h, u32_drop)

  pub part_u16 : o + 2 ≤ w → u16_at (take w (drop p d)) o ≡ u16_at d (p + o)
  unfolding u16_at
  part_u16 h =
      let h0 : o < w = omega arith in
      let h1 : o + 1 < w = omega arith in
      simp (get_or-take, get_or-drop, add_assoc)

-- a part of the first m elements that lies inside them is a part of the list
inner : (k w m : ℕ) (l : List ℕ) → k + w ≤ m → take w (drop k (take m l)) ≡ take w (drop k l)
inner zero w m l h = take-take w m l (omega arith)
inner (suc k) w zero l h = absurd (omega arith)
inner (suc k) w (suc m) [] h = refl
inner (suc k) w (suc m) (x ∷ l) h = inner k w m l (omega arith)

-- a part of a part of d: a string, an index array, a mask, a record
pub part_part : (d : List ℕ) (p m k w : ℕ) → k + w ≤ m → take w (drop k (take m (drop p d))) ≡ take w (drop (p + k) d)
part_part d p m k w h = rw (inner k w m (drop p d) h, drop-drop)

-- ---- a section that stands at a position
pub drop_u32 : (d : List ℕ) (at : ℕ) → u32_at (drop at d) 0 ≡ u32_at d at
drop_u32 d at = u32_drop at d 0 ∙ ap (u32_at d) (add-zero at)

-- 4 bytes fit after a position where their end is inside, and so do 4 and then x more; n bytes in all
room_4 : (n at : ℕ) → leb 4 (n - at) ≡ leb (at + 4) n
room_4 n at = go (leb 4 (n - at)) refl
  where
    go : (b : Bool) → leb 4 (n - at) ≡ b → b ≡ leb (at + 4) n
    go true p = sym (le-leb (at + 4) n (omega (arith, leb-true 4 (n - at) p)))
    go false p = sym (lt-leb (at + 4) n (omega (arith, leb-false 4 (n - at) p)))

room_more : (n at x : ℕ) → (leb 4 (n - at) && leb x (n - at - 4)) ≡ leb (at + 4 + x) n
room_more n at x = go (leb 4 (n - at)) (leb x (n - at - 4)) refl refl
  where
    go : (a b : Bool) → leb 4 (n - at) ≡ a → leb x (n - at - 4) ≡ b → (a && b) ≡ leb (at + 4 + x) n
    go true true p q = sym (le-leb (at + 4 + x) n (omega (arith, leb-true 4 (n - at) p, leb-true x (n - at - 4) q)))
    go true false p q = sym (lt-leb (at + 4 + x) n (omega (arith, leb-true 4 (n - at) p, leb-false x (n - at - 4) q)))
    go false b p q = sym (lt-leb (at + 4 + x) n (omega (arith, leb-false 4 (n - at) p)))

module _ (u : ℕ) (d : List ℕ) (at : ℕ) where
  pub counted_at_lem : counted u (drop at d) ≡ take (u32_at d at * u) (drop (at + 4) d)
  unfolding counted
  counted_at_lem = rw (drop_u32, drop-drop)

  pub after_counted_at : after_counted u (drop at d) ≡ drop (next_counted u d at) d
  unfolding after_counted
  after_counted_at = simp (drop_u32, drop-drop, add_assoc)

  pub counted_fits_at : counted_fits u (drop at d) ≡ leb (next_counted u d at) (length d)
  unfolding counted_fits
  counted_fits_at = simp (drop_u32, length-drop) (room_more (length d) at (u32_at d at * u))

-- ---- records that stand at a position
pub next_records_some : (n : ℕ) (d : List ℕ) (at : ℕ) → 0 < n → next_records n d at ≡ at + 4 + n * u32_at d at
unfolding next_records
next_records_some zero d at h = absurd (omega arith)
next_records_some (suc n) d at h = refl

pub stride_at_lem : (n : ℕ) (d : List ℕ) (at : ℕ) → 0 < n → (records n (drop at d)).stride ≡ u32_at d at
unfolding records
stride_at_lem zero d at h = absurd (omega arith)
stride_at_lem (suc n) d at h = drop_u32 d at

pub bytes_at : (n : ℕ) (d : List ℕ) (at : ℕ) → (records n (drop at d)).bytes ≡ take (n * u32_at d at) (drop (at + 4) d)
unfolding records
bytes_at zero d at = rw zero-mul
bytes_at (suc n) d at = rw (drop_u32, drop-drop)

-- the last of four tests may be changed where the first is true
swap_last : (a a' x y b b' : Bool) → a ≡ a' → (a && b) ≡ b' → (a && x && y && b) ≡ (a' && x && y && b')
swap_last a true x y b b' e f = let g : b ≡ b' = rw e at f in rw (e, g)
swap_last a false x y b b' e f = rw e

pub records_fit_none : (n : ℕ) (l : List ℕ) → n ≡ 0 → records_fit n l ≡ true
unfolding records_fit
records_fit_none n l e = rw e

module _ (d : List ℕ) (at : ℕ) where
  pub after_records_at : (n : ℕ) → after_records n (drop at d) ≡ drop (next_records n d at) d
  unfolding after_records next_records
  after_records_at zero = refl
  after_records_at (suc n) = simp (drop_u32, drop-drop, add_assoc)

  -- the tests of records that are there
  pub records_fit_at : (n : ℕ) → 0 < n
      → records_fit n (drop at d)
      ≡ (leb (at + 4) (length d) && eqb (u32_at d at % 4) 0 && leb 16 (u32_at d at) && leb (next_records n d at) (length d))
  unfolding records_fit next_records
  records_fit_at zero h = absurd (omega arith)
  records_fit_at (suc n) h =
      simp (drop_u32, length-drop)
      (swap_last (leb 4 (length d - at)) (leb (at + 4) (length d)) (eqb (u32_at d at % 4) 0) (leb 16 (u32_at d at)) _ _
      (room_4 (length d) at) (room_more (length d) at (suc n * u32_at d at)))

  -- they end inside
  pub next_records_inside : (n : ℕ) → at ≤ length d → records_fit n (drop at d) ≡ true → next_records n d at ≤ length d
  next_records_inside zero h e = unfold next_records in h
  next_records_inside (suc n) h e =
      leb-true _ _
      (both (leb (at + 4) (length d) && eqb (u32_at d at % 4) 0 && leb 16 (u32_at d at)) _ (sym (records_fit_at (suc n) (omega arith)) ∙ e)).1

-- ---- the rows of records
pub rows_length : (w n s : ℕ) (l : List ℕ) → length (rows w n s l) ≡ n
unfolding rows
rows_length w zero s l = refl
rows_length w (suc n) s l = ap suc (rows_length w n s _)

pub rows_at : (w n s : ℕ) (l : List ℕ) (i : ℕ) → i < n → get_or (rows w n s l) i [] ≡ take w (drop (i * s) l)
unfolding rows
rows_at w zero s l i h = absurd (omega arith)
rows_at w (suc n) s l zero h = rw zero-mul
rows_at w (suc n) s l (suc i) h =
    let z : s + i * s ≡ suc i * s = simp suc-mul (omega arith) in
    rows_at w n s (drop s l) i (omega arith) ∙ rw (drop-drop, z)

-- row i of n records of s bytes that stand at a position, and its fields
module _ (d : List ℕ) (p n s w i : ℕ) (h : i < n) (f : w ≤ s) where
  pub row_at : get_or (rows w n s (take (n * s) (drop p d))) i [] ≡ take w (drop (p + i * s) d)
  row_at =
      let inside : i * s + w ≤ n * s = omega (arith, mul-le-mul_right s h, suc-mul i s) in
      rw (rows_at w n s (take (n * s) (drop p d)) i h) (part_part d p (n * s) (i * s) w inside)

  module _ (o : ℕ) where
    pub row_byte : o < w → get_or (get_or (rows w n s (take (n * s) (drop p d))) i []) o 0 ≡ get_or d (p + i * s + o) 0
    row_byte g = rw row_at (part_byte d (p + i * s) w o g)

    pub row_u32 : o + 4 ≤ w → u32_at (get_or (rows w n s (take (n * s) (drop p d))) i []) o ≡ u32_at d (p + i * s + o)
    row_u32 g = rw row_at (part_u32 d (p + i * s) w o g)

-- ---- the sections
module _ (d : List ℕ) where
  pub after1_at : after1 d ≡ drop (resources_start d) d
  unfolding resources_start
  after1_at = after_counted_at 1 d 0

  pub resource_count_at : resource_count_of d ≡ u32_at d (resources_start d)
  resource_count_at = rw after1_at (drop_u32 d _)

  resources_left : drop 4 (after1 d) ≡ drop (resources_start d + 4) d
  resources_left = rw (after1_at, drop-drop)

  pub after2_at : after2 d ≡ drop (strings_start d) d
  unfolding strings_start
  after2_at = rw (resource_count_at, resources_left) (after_records_at d _ _)

  pub after3_at : after3 d ≡ drop (indices_start d) d
  unfolding indices_start
  after3_at = rw after2_at (after_counted_at 1 d _)

  pub after4_at : after4 d ≡ drop (elements_start d) d
  unfolding elements_start
  after4_at = rw after3_at (after_counted_at 4 d _)

  pub after5_at : after5 d ≡ drop (masks_start d) d
  unfolding masks_start
  after5_at = rw after4_at (after_records_at d _ _)

  pub resources_at : (sections d).resources ≡ records (u32_at d (resources_start d)) (drop (resources_start d + 4) d)
  unfolding sections
  resources_at = rw (resource_count_at, resources_left)

  pub strings_at : (sections d).strings ≡ take (u32_at d (strings_start d)) (drop (strings_start d + 4) d)
  unfolding sections
  strings_at = rw after2_at (rw (← (mul-one (u32_at d (strings_start d)))) (counted_at_lem 1 d (strings_start d)))

  pub indices_at : (sections d).indices ≡ take (u32_at d (indices_start d) * 4) (drop (indices_start d + 4) d)
  unfolding sections
  indices_at = rw after3_at (counted_at_lem 4 d (indices_start d))

  pub elements_at : (sections d).elements ≡ records (element_total (guide_of d)) (drop (elements_start d) d)
  unfolding sections
  elements_at = rw after4_at

  pub masks_at : (sections d).masks ≡ take (mask_bytes_of (guide_of d)) (drop (masks_start d) d)
  unfolding sections
  masks_at = rw after5_at

-- ---- the runtime record, where it is long enough
front_at : (d : List ℕ) (n : ℕ) → n ≤ u32_at d 0 → take n (runtime_of d) ≡ take n (drop 4 d)
unfolding counted
front_at d n h = take-take n (u32_at d 0 * 1) (drop 4 d) (omega arith)

module _ (d : List ℕ) (e : ℕ) (long : size_of e ≤ u32_at d 0) where
  pub runtime_at : (seen e (sections d)).runtime ≡ take (size_of e) (drop 4 d)
  unfolding seen sections
  runtime_at = front_at d (size_of e) long

  module _ (o : ℕ) where
    pub runtime_byte : o < size_of e → get_or (seen e (sections d)).runtime o 0 ≡ get_or d (4 + o) 0
    runtime_byte h = rw runtime_at (part_byte d 4 (size_of e) o h)

    pub runtime_u16 : o + 2 ≤ size_of e → u16_at (seen e (sections d)).runtime o ≡ u16_at d (4 + o)
    runtime_u16 h = rw runtime_at (part_u16 d 4 (size_of e) o h)

    pub runtime_u32 : o + 4 ≤ size_of e → u32_at (seen e (sections d)).runtime o ≡ u32_at d (4 + o)
    runtime_u32 h = rw runtime_at (part_u32 d 4 (size_of e) o h)

-- the part that later sections go by
pub guide_seen : (d : List ℕ) → (seen 1 (sections d)).runtime ≡ guide_of d
unfolding seen sections
guide_seen d = refl

pub guide_byte : (d : List ℕ) (o : ℕ) → size_of 1 ≤ u32_at d 0 → o < size_of 1 → get_or (guide_of d) o 0 ≡ get_or d (4 + o) 0
guide_byte d o long h = rw (← (guide_seen d)) (runtime_byte d 1 long o h)

pub guide_u32 : (d : List ℕ) (o : ℕ) → size_of 1 ≤ u32_at d 0 → o + 4 ≤ size_of 1 → u32_at (guide_of d) o ≡ u32_at d (4 + o)
guide_u32 d o long h = rw (← (guide_seen d)) (runtime_u32 d 1 long o h)

-- ---- the resource records: their count stands where section 2 starts, then their size s, then they
pub resources_length : (d : List ℕ) (e : ℕ) → length (seen e (sections d)).resources ≡ u32_at d (resources_start d)
unfolding seen
resources_length d e = rows_length _ _ _ _ ∙ rw resources_at (records_count _ _)

module _ (d : List ℕ) (e i s : ℕ) (es : u32_at d (resources_start d + 4) ≡ s) (h : i < u32_at d (resources_start d)) (f : 16 ≤ s) where
  pub resource_at : get_or (seen e (sections d)).resources i [] ≡ take (resource_width e s) (drop (resources_start d + 8 + i * s) d)
  unfolding seen
  resource_at =
      let some : 0 < u32_at d (resources_start d) = omega arith in
      let z : resources_start d + 4 + 4 ≡ resources_start d + 8 = omega arith in
      rw (resources_at d, records_count, stride_at_lem _ d (resources_start d + 4) some, bytes_at _ d (resources_start d + 4), es, z)
      (row_at d (resources_start d + 8) _ s (resource_width e s) i h (width_fits e s f))

  pub resource_u32 : (o : ℕ) → o + 4 ≤ resource_width e s
      → u32_at (get_or (seen e (sections d)).resources i []) o ≡ u32_at d (resources_start d + 8 + i * s + o)
  resource_u32 o g = rw resource_at (part_u32 d (resources_start d + 8 + i * s) (resource_width e s) o g)

-- ---- the element records: their size s stands where section 5 starts, then they
pub elements_length : (d : List ℕ) → length (seen 1 (sections d)).body.elements ≡ element_total (guide_of d)
unfolding seen body_of
elements_length d = rows_length _ _ _ _ ∙ rw elements_at (records_count _ _)

module _ (d : List ℕ) (i s : ℕ) (es : u32_at d (elements_start d) ≡ s) (h : i < element_total (guide_of d)) (f : 16 ≤ s) where
  pub element_at_lem : get_or (seen 1 (sections d)).body.elements i [] ≡ take 16 (drop (elements_start d + 4 + i * s) d)
  unfolding seen body_of
  element_at_lem =
      let some : 0 < element_total (guide_of d) = omega arith in
      rw (elements_at d, records_count, stride_at_lem _ d (elements_start d) some, bytes_at _ d (elements_start d), es)
      (row_at d (elements_start d + 4) _ s 16 i h f)

  module _ (o : ℕ) where
    pub element_byte : o < 16 → get_or (get_or (seen 1 (sections d)).body.elements i []) o 0 ≡ get_or d (elements_start d + 4 + i * s + o) 0
    element_byte g = rw element_at_lem (part_byte d (elements_start d + 4 + i * s) 16 o g)

    pub element_u32 : o + 4 ≤ 16 → u32_at (get_or (seen 1 (sections d)).body.elements i []) o ≡ u32_at d (elements_start d + 4 + i * s + o)
    element_u32 g = rw element_at_lem (part_u32 d (elements_start d + 4 + i * s) 16 o g)

-- ---- the masks
pub mask_at_lem : (d : List ℕ) (m : ℕ)
    → mask_at (guide_of d) (sections d).masks m
    ≡ take (get_or (mask_words_of (guide_of d)) m 0 * 4) (drop (masks_start d + sum (take m (mask_words_of (guide_of d))) * 4) d)
mask_at_lem d m =
    let h = sum_inside (mask_words_of (guide_of d)) m in
    rw (masks_at d)
    (part_part d (masks_start d) (mask_bytes_of (guide_of d)) (sum (take m (mask_words_of (guide_of d))) * 4) (get_or (mask_words_of (guide_of d)) m 0 * 4)
    (omega arith))

-- ---- the checks of the sections
module _ (d : List ℕ) where
  runtime_fits_lem : counted_fits 1 d ≡ leb (resources_start d) (length d)
  unfolding resources_start
  runtime_fits_lem = counted_fits_at 1 d 0

  count_fits : leb 4 (length (after1 d)) ≡ leb (resources_start d + 4) (length d)
  count_fits = rw (after1_at d, length-drop) (room_4 (length d) (resources_start d))

  strings_fit_lem : counted_fits 1 (after2 d) ≡ leb (indices_start d) (length d)
  unfolding indices_start
  strings_fit_lem = rw (after2_at d) (counted_fits_at 1 d (strings_start d))

  string_count : u32_at (after2 d) 0 ≡ u32_at d (strings_start d)
  string_count = rw (after2_at d) (drop_u32 d (strings_start d))

  indices_fit_lem : counted_fits 4 (after3 d) ≡ leb (elements_start d) (length d)
  unfolding elements_start
  indices_fit_lem = rw (after3_at d) (counted_fits_at 4 d (indices_start d))

  pub head_judged_at : head_judged d
      ≡ (check (leb 4 (length d) && eqb (u32_at d 0 % 4) 0 && leb 24 (u32_at d 0)) 12 0
      then check (leb (resources_start d) (length d)) 13 0
      then check (leb (resources_start d + 4) (length d) && records_fit (u32_at d (resources_start d)) (drop (resources_start d + 4) d)) 14 0)
  unfolding head_judged
  head_judged_at = rw (runtime_fits_lem, count_fits, resource_count_at d, resources_left d)

  pub body_fits_at : body_fits (after2 d) (element_total (guide_of d)) (mask_bytes_of (guide_of d))
      ≡ (check (leb (indices_start d) (length d) && eqb (u32_at d (strings_start d) % 4) 0) 18 0
      then check (leb (elements_start d) (length d)) 19 0
      then check (records_fit (element_total (guide_of d)) (drop (elements_start d) d)) 20 0
      then check (leb (mask_bytes_of (guide_of d)) (length d - masks_start d)) 21 0)
  unfolding body_fits
  body_fits_at = rw (strings_fit_lem, string_count, indices_fit_lem, after5_at d, after4_at d, length-drop)
