-- What a reading that accepts tells of the data and the places.
-- Assumes nothing.
use mathlib.Core.Path.{◌≡◌, ap, ◌∙◌}
use mathlib.Core.List.{List}
use mathlib.Core.Logic.{⊎_elim}
use Prim.Native.Nat.{ℕ, ◌*◌, ◌≤◌, ◌<◌}
use native.Mathlib.Omega.{arith}
use native.Mathlib.Nat.{le_trans, mul-le-mul_left, eq-zero-or-pos}
use lib.ListN.{length}
use Rattle.constants.specs.Edition.{size_of}
use Rattle.constants.proofs.Editions.{size_mono}
use Rattle.psv0_layout.specs.Layout.{Records, sections, edition_read_of}
use Rattle.psv0_layout.proofs.Layouts.{WholeRecords, none, some, WholeBody}
use Rattle.psv0_layout.proofs.Opened.{length_most, head_accepted, edition_asked, edition_size, body_accepted}
use Rattle.psv0_layout.proofs.Wholes.{head_whole, body_whole}
use Rattle.psv0_sections.specs.Places.{head_places, places_of, Placed, HeadPlaced, BodyPlaced}
use Rattle.psv0_sections.specs.declared.Places.{Places}
use Rattle.psv0_sections.proofs.Opening.{placed}
use Rattle.psv0.specs.Reading.{Reading}

stride_small : {t : Records} → WholeRecords t → t.stride < 4294967296
stride_small none = omega arith
stride_small (some n s b four least small e) = small

module _ {d : List ℕ} {p : Places} (g : Reading d p) where
  found : Placed (edition_read_of g.edition d) d (places_of (edition_read_of g.edition d) d)
  found = placed g.edition d g.accepted

  pub edition_is : p.edition ≡ edition_read_of g.edition d
  edition_is = ap (λ x. x.edition) g.places ∙ found.edition

  pub head : HeadPlaced d p
  head = rw g.places found.head

  pub body : 1 ≤ p.edition → BodyPlaced d p
  body h = rw g.places (found.body (rw edition_is at h))

  -- at edition read 0 sections 3 to 6 have no places
  pub none_placed : p.edition ≡ 0 → p ≡ head_places d
  unfolding places_of
  none_placed h = g.places ∙ rw (edition_zero h)
    where
      edition_zero : p.edition ≡ 0 → edition_read_of g.edition d ≡ 0
      edition_zero q = rw edition_is at q

  pub short : length d ≤ 16777216
  short = length_most g.edition d g.accepted

  -- the runtime record is as long as the edition read
  pub long : (e : ℕ) → e ≤ p.edition → size_of e ≤ p.size
  long e h = rw head.size (le_trans (size_mono e _ (rw edition_is at h)) (edition_size g.edition d g.accepted))

  -- ---- every number is one of 32 bits
  few_of : (n s : ℕ) → (1 ≤ n → 16 ≤ s) → n * s ≤ length d → n < 4294967296
  few_of n s f h = ⊎_elim (λ z. omega arith) (λ l. omega (arith, short, mul-le-mul_left n (f l))) (eq-zero-or-pos n)

  pub edition_small : p.edition < 4294967296
  edition_small = let k = edition_asked g.edition d g.accepted in rw edition_is (omega arith)

  pub resources_small : p.resources < 4294967296
  resources_small = omega (arith, short, head.resources_fit)

  pub resource_count_small : p.resource_count < 4294967296
  resource_count_small = few_of _ _ head.enough (omega (arith, head.resources_fit))

  pub resource_size_small : p.resource_size < 4294967296
  resource_size_small = rw head.stride (stride_small (head_whole d (head_accepted g.edition d g.accepted) short).resources)

  module _ (h : 1 ≤ p.edition) where
    later : 1 ≤ edition_read_of g.edition d
    later = rw edition_is at h

    whole : WholeBody (sections d)
    whole = body_whole d short (body_accepted g.edition d g.accepted later)

    pub strings_small_lem : p.strings < 4294967296
    strings_small_lem = omega (arith, short, (body h).strings_fit)

    pub string_bytes_small : p.string_bytes < 4294967296
    string_bytes_small = omega (arith, short, (body h).strings_fit)

    pub indices_small_lem : p.indices < 4294967296
    indices_small_lem = omega (arith, short, (body h).indices_fit)

    pub index_count_small : p.index_count < 4294967296
    index_count_small = omega (arith, short, (body h).indices_fit)

    pub elements_small : p.elements < 4294967296
    elements_small = omega (arith, short, (body h).elements_fit)

    pub element_count_small : p.element_count < 4294967296
    element_count_small = few_of _ _ (body h).enough (omega (arith, (body h).elements_fit))

    pub element_size_small : p.element_size < 4294967296
    element_size_small = rw (body h).stride (stride_small whole.elements)

    pub masks_small : p.masks < 4294967296
    masks_small = omega (arith, short, (body h).masks_fit)
