-- Plain form by a record of places, of data that reader 3 accepts.
-- Assumes nothing.
use Rattle.std.specs.Prelude.{Result, Ok, Err}
use Prim.Native.Nat.{ℕ, ◌+◌, ◌-◌, ◌*◌, ◌≤◌}
use mathlib.Core.Path.{◌≡◌, refl, sym, ◌∙◌, ap}
use mathlib.Core.Bool.{Bool, true, false}
use mathlib.Core.List.{List}
use native.Mathlib.Nat.{zero-add}
use native.Mathlib.Omega.{arith}
use lib.Dec.{leb, eqb}
use lib.ListN.{length, take, length-drop}
use borrow.Author.Tests.{leb-true, leb-false, eqb-true, eqb-false, eq-eqb, ne_eqb}
use Rattle.constants.specs.Edition.{file_edition_of}
use Rattle.constants.proofs.Editions.{edition_few}
use Rattle.wire.specs.Choice.{choose}
use Rattle.wire.specs.Number.{u32_at}
use Rattle.wire.specs.declared.Refusal.{Refusal}
use Rattle.wire.specs.Verdict.{Accepted, Refused}
use Rattle.wire.proofs.Verdicts.{stop_then, pass_then, checked, check_fails, refused_by, accepted_by, value_by}
use Rattle.psv0_layout.specs.Field.{mask_words_of, mask_bytes_of, element_total}
use Rattle.psv0_layout.specs.Judged.{opened}
use Rattle.psv0_layout.specs.Layout.{sections, guide_of, after2, after5, edition_read_of}
use Rattle.psv0_layout.specs.Position.{stride_at, first_record, resources_start, strings_start, elements_start, masks_start}
use Rattle.psv0_layout.proofs.Inside.{records_stride, last_resource, body_fits_lem}
use Rattle.psv0_layout.proofs.Opened.{head_fits, head_accepted, body_accepted}
use Rattle.psv0_layout.proofs.Positions.{resources_at, elements_at, after2_at, after5_at}
use Rattle.psv0_layout.proofs.Wholes.{records_count}
use Rattle.places_layout.specs.Placed.{head_at, whole_at, places_at, opened_places}
use Rattle.places_layout.specs.declared.PlacesAnswer.{PlacesAnswer}
use Rattle.replacing_layout.specs.Judged.{sized_as, is_plain, plain_by, new_judged}

-- what is left after m of n bytes is at most w bytes, of which there are so many: the n bytes end there
ends : (n m w : ℕ) → m + w ≤ n → eqb n (m + w) ≡ leb (n - m) w
ends n m w h = go (leb (n - m) w) refl
  where
    go : (t : Bool) → leb (n - m) w ≡ t → eqb n (m + w) ≡ t
    go true e = let l = leb-true (n - m) w e in eq-eqb n (m + w) (omega arith)
    go false e = let l = leb-false (n - m) w e in ne_eqb n (m + w) (λ q. omega arith)

nothing_left : (n m : ℕ) → m ≤ n → eqb n m ≡ eqb (n - m) 0
nothing_left n m h = go (eqb (n - m) 0) refl
  where
    go : (t : Bool) → eqb (n - m) 0 ≡ t → eqb n m ≡ t
    go true e = let l = eqb-true (n - m) 0 e in eq-eqb n m (omega arith)
    go false e = ne_eqb n m (λ q. eqb-false (n - m) 0 e (omega arith))

module _ (d : List ℕ) (a : opened 3 d ≡ Accepted) where
  abbrev e : ℕ
  e = file_edition_of (u32_at d 0)

  read : edition_read_of 3 d ≡ e
  read = let f = edition_few (u32_at d 0) in omega arith

  resources_sized : (s : ℕ) → sized_as (u32_at d (resources_start d)) (stride_at (u32_at d (resources_start d)) d (resources_start d + 4)) s
      ≡ sized_as (sections d).resources.count (sections d).resources.stride s
  resources_sized s = rw (resources_at d, records_count, ← records_stride)

  elements_sized : (s : ℕ) → sized_as (element_total (guide_of d)) (stride_at (element_total (guide_of d)) d (elements_start d)) s
      ≡ sized_as (sections d).elements.count (sections d).elements.stride s
  elements_sized s = rw (elements_at d, records_count, ← records_stride)

  head_ends : eqb (length d) (first_record (u32_at d (resources_start d)) (resources_start d + 4)
      + u32_at d (resources_start d) * stride_at (u32_at d (resources_start d)) d (resources_start d + 4)) ≡ eqb (length (after2 d)) 0
  head_ends =
      let h = (head_fits d (head_accepted 3 d a)).end in
      rw (last_resource d, after2_at d, length-drop) (nothing_left (length d) (strings_start d) h)

  body_ends : 1 ≤ edition_read_of 3 d → eqb (length d) (masks_start d + mask_bytes_of (guide_of d)) ≡ leb (length (after5 d)) (mask_bytes_of (guide_of d))
  body_ends l =
      let h = (body_fits_lem d (body_accepted 3 d a l)).masks in
      rw (after5_at d, length-drop) (ends (length d) (masks_start d) (mask_bytes_of (guide_of d)) h)

  eleven : take 11 (mask_words_of (guide_of d)) ≡ mask_words_of (guide_of d)
  unfolding mask_words_of
  eleven = refl

  whole_measured : leb 1 e ≡ true → plain_by (whole_at 0 e d) (u32_at d 0) (length d) ≡ is_plain d
  unfolding plain_by is_plain whole_at
  whole_measured p =
      let l : 1 ≤ edition_read_of 3 d = let r = read in let h = leb-true 1 e p in omega arith in
      rw (p, zero-add, eleven, resources_sized, elements_sized, body_ends l)

  head_measured : leb 1 e ≡ false → plain_by (head_at 0 d) (u32_at d 0) (length d) ≡ is_plain d
  unfolding plain_by is_plain head_at
  head_measured p =
      let z : e ≡ 0 = let h = leb-false 1 e p in omega arith in
      rw (p, z, zero-add, resources_sized, head_ends)

  -- the test by the record of reader 3 is that of plain form
  pub plain_measured : plain_by (places_at 0 (edition_read_of 3 d) d) (u32_at d 0) (length d) ≡ is_plain d
  unfolding places_at
  plain_measured = rw read (go (leb 1 e) refl)
    where
      go : (t : Bool) → leb 1 e ≡ t → plain_by (choose t (whole_at 0 e d) (head_at 0 d)) (u32_at d 0) (length d) ≡ is_plain d
      go true p = whole_measured p
      go false p = head_measured p

-- ---- the new data
module _ (new : List ℕ) {r : Result PlacesAnswer Refusal} (h : r ≡ opened_places 3 new) where
  pub new_refused : {q : Refusal} → r ≡ Err q → Refused q.number q.place ≡ new_judged new
  unfolding new_judged opened_places
  new_refused e = stop_then (opened 3 new) _ _ _ (refused_by _ _ h e)

  module _ {a : PlacesAnswer} (ok : r ≡ Ok a) {s : ℕ} (z : s ≡ u32_at new 0) {t : Bool} (m : t ≡ plain_by a.places s (length new)) where
    reads : opened 3 new ≡ Accepted
    unfolding opened_places
    reads = accepted_by _ _ h ok

    tested : is_plain new ≡ t
    unfolding opened_places
    tested =
        let e : a.places ≡ places_at 0 (edition_read_of 3 new) new = ap (λ (q : PlacesAnswer). q.places) (value_by _ _ h ok) in
        sym (plain_measured new reads) ∙ sym (m ∙ rw (e, z))

    pub new_plain : t ≡ true → Accepted ≡ new_judged new
    unfolding new_judged
    new_plain e = pass_then (opened 3 new) _ _ reads (sym (checked (is_plain new) 27 0 (tested ∙ e)))

    pub new_other : t ≡ false → Refused 27 0 ≡ new_judged new
    unfolding new_judged
    new_other e = pass_then (opened 3 new) _ _ reads (sym (check_fails (is_plain new) 27 0 (tested ∙ e)))
