-- Where records stand that fit, and that sections 3 to 6 lie inside data that pass their checks.
-- Assumes nothing.
use Prim.Native.Nat.{ℕ, zero, suc, ◌+◌, ◌-◌, ◌*◌, ◌%◌, ◌≤◌}
use mathlib.Core.Path.{◌≡◌, refl, sym, ◌∙◌}
use mathlib.Core.Bool.{true, ◌&&◌}
use mathlib.Core.List.{List}
use native.Mathlib.Omega.{arith}
use native.Mathlib.Nat.{zero-mul, add-zero}
use lib.Dec.{leb, eqb}
use lib.ListN.{length, take, drop}
use lib.Seq.{drop-drop}
use borrow.Author.Tests.{leb-true}
use Rattle.wire.specs.Number.{u32_at}
use Rattle.wire.specs.Verdict.{Accepted}
use Rattle.wire.proofs.Choices.{both}
use Rattle.wire.proofs.Verdicts.{check_then, check_accepted}
use Rattle.psv0_layout.specs.Field.{element_total, mask_bytes_of}
use Rattle.psv0_layout.specs.Judged.{body_fits}
use Rattle.psv0_layout.specs.Layout.{records, records_fit, guide_of, after2}
use Rattle.psv0_layout.specs.Position.{next_records, stride_at, first_record, resources_start, strings_start, indices_start, elements_start, masks_start}
use Rattle.psv0_layout.proofs.Positions.{drop_u32, next_records_inside, records_fit_at, body_fits_at}

-- ---- n records that start, with their size, at a position
pub records_stride : (n at : ℕ) (d : List ℕ) → stride_at n d at ≡ (records n (drop at d)).stride
unfolding records stride_at
records_stride zero at d = refl
records_stride (suc n) at d = sym (drop_u32 d at)

pub records_bytes : (n at : ℕ) (d : List ℕ) → take (n * stride_at n d at) (drop (first_record n at) d) ≡ (records n (drop at d)).bytes
unfolding records stride_at first_record
records_bytes zero at d = refl
records_bytes (suc n) at d = rw (drop_u32, drop-drop)

last_record : (n at : ℕ) (d : List ℕ) → first_record n at + n * stride_at n d at ≡ next_records n d at
unfolding next_records first_record stride_at
last_record zero at d = rw zero-mul (add-zero at)
last_record (suc n) at d = refl

-- records that fit have an allowed size
pub records_enough : (n at : ℕ) (d : List ℕ) → records_fit n (drop at d) ≡ true → 1 ≤ n → 16 ≤ stride_at n d at
unfolding stride_at
records_enough zero at d e h = absurd (omega arith)
records_enough (suc n) at d e h =
    let (a, b) = both (leb (at + 4) (length d) && eqb (u32_at d at % 4) 0 && leb 16 (u32_at d at)) _ (sym (records_fit_at d at (suc n) h) ∙ e) in
    leb-true 16 _ (both (leb (at + 4) (length d) && eqb (u32_at d at % 4) 0) _ a).1

-- ---- the last records of sections 2 and 5 end where the next section starts
module _ (d : List ℕ) where
  pub last_resource : first_record (u32_at d (resources_start d)) (resources_start d + 4)
      + u32_at d (resources_start d) * stride_at (u32_at d (resources_start d)) d (resources_start d + 4)
      ≡ strings_start d
  unfolding strings_start
  last_resource = last_record _ (resources_start d + 4) d

  pub last_element : first_record (element_total (guide_of d)) (elements_start d) + element_total (guide_of d) * stride_at (element_total (guide_of d)) d (elements_start d)
      ≡ masks_start d
  unfolding masks_start
  last_element = last_record _ (elements_start d) d

-- ---- sections 3 to 6
pub record BodyFits (d : List ℕ) : Type 0 where
  pub strings : strings_start d + 4 + u32_at d (strings_start d) ≤ length d
  pub indices : indices_start d + 4 + u32_at d (indices_start d) * 4 ≤ length d
  pub records : records_fit (element_total (guide_of d)) (drop (elements_start d) d) ≡ true
  pub elements : masks_start d ≤ length d
  pub masks : masks_start d + mask_bytes_of (guide_of d) ≤ length d

pub body_fits_lem : (d : List ℕ) → body_fits (after2 d) (element_total (guide_of d)) (mask_bytes_of (guide_of d)) ≡ Accepted → BodyFits d
unfolding indices_start elements_start masks_start
body_fits_lem d e =
    let (a, e1) = check_then (leb (indices_start d) (length d) && eqb (u32_at d (strings_start d) % 4) 0) 18 0 _ (sym (body_fits_at d) ∙ e) in
    let (b, e2) = check_then (leb (elements_start d) (length d)) 19 0 _ e1 in
    let (c, e3) = check_then (records_fit (element_total (guide_of d)) (drop (elements_start d) d)) 20 0 _ e2 in
    let i3 : indices_start d ≤ length d = leb-true _ _ (both (leb (indices_start d) (length d)) _ a).0 in
    let i4 : elements_start d ≤ length d = leb-true _ _ b in
    let i5 : masks_start d ≤ length d = next_records_inside d (elements_start d) _ i4 c in
    let i6 : mask_bytes_of (guide_of d) ≤ length d - masks_start d = leb-true _ _ (check_accepted _ 21 0 e3) in
    record { strings = omega arith; indices = i4; records = c; elements = i5; masks = omega arith }
