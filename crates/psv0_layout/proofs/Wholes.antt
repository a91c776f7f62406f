-- Sections that fit are whole: what the checks of sections 1 to 6 tell of what they hold.
-- Assumes nothing.
use Prim.Native.Nat.{ℕ, zero, suc, ◌*◌, ◌%◌, ◌≤◌, ◌<◌}
use mathlib.Core.Path.{◌≡◌, refl, ◌∙◌}
use mathlib.Core.Bool.{Bool, true, false, ◌&&◌}
use mathlib.Core.List.{List}
use native.Mathlib.Omega.{arith}
use native.Mathlib.Nat.{suc-mul, mul-one, mul-le-mul_left}
use lib.Dec.{leb, eqb}
use lib.ListN.{length, drop, length-take, length-drop}
use lib.Seq.{length-take-le}
use borrow.Author.Tests.{leb-true, eqb-true}
use Rattle.wire.specs.Choice.{choose}
use Rattle.wire.specs.Number.{u32_at}
use Rattle.wire.specs.Verdict.{Accepted}
use Rattle.wire.proofs.Choices.{both}
use Rattle.wire.proofs.Verdicts.{check_accepted, check_then}
use Rattle.psv0_layout.specs.Field.{element_total, mask_bytes_of}
use Rattle.psv0_layout.specs.Judged.{head_judged, body_fits}
use Rattle.psv0_layout.specs.Layout.{Records, counted, after_counted, counted_fits, records, after_records, records_fit, runtime_of, guide_of, resource_count_of, after1, after2, after3, after4, sections, resource_width}
use Rattle.psv0_layout.proofs.Layouts.{WholeRecords, none, some, WholeHead, WholeBody}

-- ---- a section with a count
pub counted_length : (u : ℕ) (l : List ℕ) → counted_fits u l ≡ true → length (counted u l) ≡ u32_at l 0 * u
unfolding counted_fits counted
counted_length u l e = length-take-le _ _ (leb-true _ _ (both (leb 4 (length l)) _ e).1)

-- nothing is longer than what it is read from
module _ (u : ℕ) (l : List ℕ) where
  counted_short : length (counted u l) ≤ length l
  unfolding counted
  counted_short = simp (length-take, length-drop) (omega arith)

  after_counted_short : length (after_counted u l) ≤ length l
  unfolding after_counted
  after_counted_short = simp length-drop (omega arith)

records_short : (n : ℕ) (l : List ℕ) → length (records n l).bytes ≤ length l
unfolding records
records_short zero l = omega arith
records_short (suc n) l = simp (length-take, length-drop) (omega arith)

after_records_short : (n : ℕ) (l : List ℕ) → length (after_records n l) ≤ length l
unfolding after_records
after_records_short zero l = omega arith
after_records_short (suc n) l = simp length-drop (omega arith)

-- ---- records
pub records_count : (n : ℕ) (l : List ℕ) → (records n l).count ≡ n
unfolding records
records_count zero l = refl
records_count (suc n) l = refl

-- the four tests of a record size, where there are records
pub record RecordsFit (n : ℕ) (l : List ℕ) : Type 0 where
  pub size : 4 ≤ length l
  pub four : u32_at l 0 % 4 ≡ 0
  pub least : 16 ≤ u32_at l 0
  pub all : n * u32_at l 0 ≤ length (drop 4 l)

pub records_fit_lem : (n : ℕ) (l : List ℕ) → records_fit (suc n) l ≡ true → RecordsFit (suc n) l
unfolding records_fit
records_fit_lem n l e =
    let (e1, all) = both (leb 4 (length l) && eqb (u32_at l 0 % 4) 0 && leb 16 (u32_at l 0)) _ e in
    let (e2, least) = both (leb 4 (length l) && eqb (u32_at l 0 % 4) 0) _ e1 in
    let (size, four) = both (leb 4 (length l)) _ e2 in
    record { size = leb-true _ _ size; four = eqb-true _ _ four; least = leb-true _ _ least; all = leb-true _ _ all }

records_whole : (n : ℕ) (l : List ℕ) → records_fit n l ≡ true → length l ≤ 16777216 → WholeRecords (records n l)
unfolding records
records_whole zero l e h = none
records_whole (suc n) l e h =
    let f = records_fit_lem n l e in
    let g = simp (suc-mul, length-drop) at f.all in
    some n (u32_at l 0) _ f.four f.least (omega arith) (length-take-le _ _ f.all)

pub count_small : {t : Records} → WholeRecords t → length t.bytes ≤ 16777216 → t.count < 4294967296
count_small none h = omega arith
count_small (some n s b four least small e) h = omega (arith, mul-le-mul_left (suc n) least)

-- a record of an allowed size holds the bytes that a reading looks at
pub width_fits : (e s : ℕ) → 16 ≤ s → resource_width e s ≤ s
width_fits e s h = go (leb 2 e) (leb 24 s) (leb-true 24 s)
  where
    go : (a b : Bool) → (b ≡ true → 24 ≤ s) → choose (a && b) 24 16 ≤ s
    go false b f = h
    go true true f = f refl
    go true false f = h

-- ---- sections 1 and 2
module _ (d : List ℕ) (e : head_judged d ≡ Accepted) where
  pub runtime_length : length (sections d).runtime ≡ u32_at d 0
  unfolding head_judged sections
  runtime_length =
      let c13 = (check_then _ _ _ _ (check_then _ _ _ _ e).1).0 in
      counted_length 1 d c13 ∙ mul-one _

  pub head_whole : length d ≤ 16777216 → WholeHead (sections d)
  unfolding head_judged sections
  head_whole h =
      let (c12, e1) = check_then _ _ _ _ e in
      let (c13, e2) = check_then _ _ _ _ e1 in
      let (c4, least) = both (leb 4 (length d) && eqb (u32_at d 0 % 4) 0) _ c12 in
      let four = (both (leb 4 (length d)) _ c4).1 in
      let fit = (both (leb 4 (length (after1 d))) _ (check_accepted _ _ _ e2)).1 in
      let size : length (runtime_of d) ≡ u32_at d 0 = runtime_length in
      let short : length (runtime_of d) ≤ length d = counted_short 1 d in
      let short1 : length (drop 4 (after1 d)) ≤ 16777216 = simp length-drop (omega (arith, after_counted_short 1 d)) in
      let whole = records_whole _ _ fit short1 in
      record {
        four = rw size (eqb-true _ _ four);
        least = rw size (leb-true _ _ least);
        small = omega arith;
        resources = whole;
        few = count_small whole (omega (arith, records_short (resource_count_of d) (drop 4 (after1 d))));
      }

-- ---- sections 3 to 6
after2_short : (d : List ℕ) → length (after2 d) ≤ length d
after2_short d =
    omega (arith, after_records_short (resource_count_of d) (drop 4 (after1 d)), length-drop 4 (after1 d), after_counted_short 1 d)

pub body_whole : (d : List ℕ) → length d ≤ 16777216
    → body_fits (after2 d) (element_total (guide_of d)) (mask_bytes_of (guide_of d)) ≡ Accepted → WholeBody (sections d)
unfolding body_fits sections
body_whole d h e =
    let (c18, e1) = check_then _ _ _ _ e in
    let (c19, e2) = check_then _ _ _ _ e1 in
    let (c20, e3) = check_then _ _ _ _ e2 in
    let c21 = check_accepted _ _ _ e3 in
    let (fit3, four) = both (counted_fits 1 (after2 d)) _ c18 in
    let h2 = after2_short d in
    let h3 = after_counted_short 1 (after2 d) in
    let h4 = after_counted_short 4 (after3 d) in
    let l3 : length (counted 1 (after2 d)) ≡ u32_at (after2 d) 0 = counted_length 1 _ fit3 ∙ mul-one _ in
    let l4 : length (counted 4 (after3 d)) ≡ u32_at (after3 d) 0 * 4 = counted_length 4 _ c19 in
    let s3 : length (counted 1 (after2 d)) ≤ length (after2 d) = counted_short 1 _ in
    let s4 : length (counted 4 (after3 d)) ≤ length (after3 d) = counted_short 4 _ in
    record {
      strings4 = rw l3 (eqb-true _ _ four);
      strings_small = omega arith;
      indices4 = omega arith;
      indices_small = omega arith;
      elements = records_whole _ _ c20 (omega arith);
      counts = records_count (element_total (guide_of d)) (after4 d);
      masks = length-take-le _ _ (leb-true _ _ c21);
    }
