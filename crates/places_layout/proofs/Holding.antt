-- A record whose stretches of the bytes are the sections of PSV0 data: a reading by it looks at what a reading of the data looks at.
-- Assumes nothing.
use Prim.Native.Nat.{ℕ, ◌+◌, ◌*◌, ◌≤◌, ◌<◌}
use mathlib.Core.Path.{◌≡◌, sym, ◌∙◌, ap}
use mathlib.Core.Bool.{true}
use mathlib.Core.List.{List, []}
use native.Mathlib.Omega.{arith}
use native.Mathlib.Nat.{le_trans}
use lib.Dec.{leb}
use lib.ListN.{length, get_or, take, drop}
use lib.Seq.{take-take, drop-drop, ext_get_or}
use borrow.Author.Tests.{leb-true}
use Rattle.constants.specs.Edition.{size_of}
use Rattle.constants.proofs.Editions.{size_mono}
use Rattle.wire.specs.Choice.{choose}
use Rattle.wire.specs.Number.{u32_at}
use Rattle.wire.proofs.Choices.{choose_eq}
use Rattle.psv0_layout.specs.Field.{stage, mask_words_of, sum, name_offset_of, index_reference_of, row_count}
use Rattle.psv0_layout.specs.Layout.{Sections, rows, body_of, no_body, resource_width, seen}
use Rattle.psv0_layout.specs.Reference.{string_good, index_good}
use Rattle.psv0_layout.proofs.Positions.{rows_length, rows_at, row_at}
use Rattle.psv0_layout.proofs.Wholes.{width_fits}
use Rattle.places_layout.specs.Read.{body_by, seen_by}
use Rattle.places_layout.specs.declared.SectionPlaces.{SectionPlaces}

-- the record's stretches of the bytes b are the sections s, as far as a reading at edition read er goes: sections 3 to 6
pub record HoldsBody (p : SectionPlaces) (b : List ℕ) (s : Sections) : Type 0 where
  pub stage : p.stage ≡ stage (take (size_of 1) s.runtime)
  pub strings : take p.string_bytes (drop p.strings b) ≡ s.strings
  pub strings_fit : p.strings + p.string_bytes ≤ length b
  pub indices : take (p.index_count * 4) (drop p.indices b) ≡ s.indices
  pub indices_fit : p.indices + p.index_count * 4 ≤ length b
  pub count : p.element_count ≡ s.elements.count
  pub stride : p.element_size ≡ s.elements.stride
  pub enough : 1 ≤ p.element_count → 16 ≤ p.element_size
  pub elements : take (p.element_count * p.element_size) (drop p.elements b) ≡ s.elements.bytes
  pub elements_fit : p.elements + p.element_count * p.element_size ≤ length b
  pub words : p.mask_words ≡ mask_words_of (take (size_of 1) s.runtime)
  pub masks : take (sum p.mask_words * 4) (drop p.masks b) ≡ s.masks
  pub masks_fit : p.masks + sum p.mask_words * 4 ≤ length b

-- and all of them
pub record Holds (p : SectionPlaces) (b : List ℕ) (er : ℕ) (s : Sections) : Type 0 where
  pub edition : p.edition ≡ er
  pub runtime : take (size_of er) (drop p.runtime b) ≡ take (size_of er) s.runtime
  pub runtime_fits : p.runtime + size_of er ≤ length b
  pub count : p.resource_count ≡ s.resources.count
  pub stride : p.resource_size ≡ s.resources.stride
  pub enough : 1 ≤ p.resource_count → 16 ≤ p.resource_size
  pub resources : take (p.resource_count * p.resource_size) (drop p.resources b) ≡ s.resources.bytes
  pub resources_fit : p.resources + p.resource_count * p.resource_size ≤ length b
  pub body : 1 ≤ er → HoldsBody p b s

-- the references on the way are good
pub record Good (er : ℕ) (s : Sections) : Type 0 where
  pub names : 1 ≤ er → (i : ℕ) → i < s.elements.count → string_good s.strings (name_offset_of (get_or (body_of s).elements i [])) ≡ true
  pub arrays : 1 ≤ er → (i : ℕ) → i < s.elements.count
      → index_good s.indices (index_reference_of (get_or (body_of s).elements i [])) (row_count (get_or (body_of s).elements i [])) ≡ true
  pub entry : 3 ≤ er → string_good s.strings (u32_at (take (size_of 3) s.runtime) 48) ≡ true

-- ---- a reading looks at the same
rows_same : (b : List ℕ) (at n z w : ℕ) → (1 ≤ n → w ≤ z) → rows w n z (drop at b) ≡ rows w n z (take (n * z) (drop at b))
rows_same b at n z w f =
    ext_get_or [] _ _ (rows_length w n z _ ∙ sym (rows_length w n z _))
    (λ i h.
    let l : i < n = rw rows_length at h in
    rows_at w n z (drop at b) i l ∙ rw drop-drop (sym (row_at b at n z w i l (f (omega arith)))))

module _ {p : SectionPlaces} {b : List ℕ} {er : ℕ} {s : Sections} (h : Holds p b er s) where
  pub body_same : 1 ≤ er → body_by p b ≡ body_of s
  unfolding body_by body_of
  body_same one =
      let g = h.body one in
      let elements : rows 16 p.element_count p.element_size (drop p.elements b) ≡ rows 16 s.elements.count s.elements.stride s.elements.bytes =
      rows_same b p.elements p.element_count p.element_size 16 g.enough ∙ rw (g.elements, g.count, g.stride) in
      λ i. record { strings = g.strings i; indices = g.indices i; elements = elements i; masks = g.masks i }

  pub seen_same : (e : ℕ) → e ≤ er → seen_by p b e ≡ seen e s
  unfolding seen_by seen
  seen_same e l =
      let m = size_mono e er l in
      let runtime : take (size_of e) (drop p.runtime b) ≡ take (size_of e) s.runtime =
      sym (take-take (size_of e) (size_of er) _ m) ∙ ap (take (size_of e)) h.runtime ∙ take-take (size_of e) (size_of er) _ m in
      let resources : rows (resource_width e p.resource_size) p.resource_count p.resource_size (drop p.resources b)
      ≡ rows (resource_width e s.resources.stride) s.resources.count s.resources.stride s.resources.bytes =
      rows_same b p.resources p.resource_count p.resource_size (resource_width e p.resource_size) (λ c. width_fits e p.resource_size (h.enough c))
      ∙ rw (h.resources, h.count, h.stride) in
      let body : choose (leb 1 e) (body_by p b) no_body ≡ choose (leb 1 e) (body_of s) no_body =
      choose_eq (leb 1 e) _ _ no_body (λ t. body_same (le_trans (leb-true 1 e t) l)) in
      λ i. record { runtime = runtime i; resources = resources i; body = body i }
