-- What is written reads back: its sections are those given, and its edition is the writer's.
-- Assumes nothing.
use Prim.Native.Nat.{ℕ, zero, suc, ◌+◌, ◌*◌, ◌%◌, ◌≤◌}
use mathlib.Core.Path.{◌≡◌, refl, ◌∙◌}
use mathlib.Core.List.{List, []}
use native.Mathlib.Omega.{arith}
use lib.ListN.{length, take}
use lib.Seq.{take-nil, drop-nil}
use borrow.Author.Tests.{le-leb}
use Rattle.constants.specs.Edition.{size_of, file_edition_of}
use Rattle.constants.proofs.Editions.{size_mono}
use Rattle.wire.specs.Number.{u32_at}
use Rattle.psv0_layout.specs.Field.{element_total, mask_bytes_of}
use Rattle.psv0_layout.specs.Laid.{head_laid, body_laid}
use Rattle.psv0_layout.specs.Layout.{Sections, counted, after_counted, records, runtime_of, guide_of, after2, after3, after4, after5, sections, edition_read_of}
use Rattle.psv0_layout.proofs.Layouts.{WholeHead, WholeBody, head_size, head_runtime, head_resources, head_after2, read_back}
use Rattle.psv0_layout.proofs.Wholes.{count_small}
use Rattle.psv0_writer_layout.specs.Stretch.{head_length, body_length, written_length}
use Rattle.psv0_writer_layout.specs.Written.{Given, records_from, sections_from, written}
use Rattle.psv0_writer_layout.proofs.GivenRecords.{empty, element_size, resource_size_lem, whole_from}
use Rattle.psv0_writer_layout.proofs.Lengths.{Lengths, body_total}
use Rattle.psv0_writer_layout.proofs.Runtime.{elements_kept, masks_kept, no_elements, no_masks}
use Rattle.psv0_writer_layout.proofs.Stretches.{whole_elements, length_laid}

-- edition 0, or a later one
pub by_edition : {A : Type 0} (e : ℕ) → (e ≡ 0 → A) → (1 ≤ e → A) → A
by_edition zero a b = a refl
by_edition (suc e) a b = b (omega arith)

-- ---- the edition of a record of exactly an edition's size
size_four : (e : ℕ) → size_of e % 4 ≡ 0
size_four zero = refl
size_four (suc zero) = refl
size_four (suc (suc zero)) = refl
size_four (suc (suc (suc zero))) = refl
size_four (suc (suc (suc (suc e)))) = refl

edition_of_size : (e : ℕ) → e ≤ 3 → file_edition_of (size_of e) ≡ e
edition_of_size zero h = refl
edition_of_size (suc zero) h = refl
edition_of_size (suc (suc zero)) h = refl
edition_of_size (suc (suc (suc zero))) h = refl
edition_of_size (suc (suc (suc (suc e)))) h = absurd (omega arith)

pub edition_again : (e : ℕ) (d : List ℕ) → e ≤ 3 → u32_at d 0 ≡ size_of e → edition_read_of 3 d ≡ e
edition_again e d h s = rw (s, edition_of_size e h) (omega arith)

-- ---- no bytes
counted_none : (u : ℕ) → counted u [] ≡ []
unfolding counted
counted_none u = take-nil (u32_at [] 0 * u)

after_counted_none : (u : ℕ) → after_counted u [] ≡ []
unfolding after_counted
after_counted_none u = drop-nil (u32_at [] 0 * u)

pub record NoBody (g : Given) : Type 0 where
  pub strings : g.strings ≡ []
  pub indices : g.indices ≡ []
  pub elements : g.elements ≡ []
  pub masks : g.masks ≡ []

pub no_body_lem : (g : Given) → body_total g ≡ 0 → NoBody g
no_body_lem g z =
    record {
      strings = empty _ (omega arith);
      indices = empty _ (omega arith);
      elements = empty _ (omega arith);
      masks = empty _ (omega arith);
    }

-- ---- the layout of each
module _ (e : ℕ) (g : Given) where
  pub written_0 : e ≡ 0 → written e g ≡ head_laid (sections_from e g) []
  unfolding written
  written_0 z = rw z

  pub written_1 : 1 ≤ e → written e g ≡ head_laid (sections_from e g) (body_laid (sections_from e g) [])
  unfolding written
  written_1 h = simp (le-leb 1 e h)

module _ (e : ℕ) (g : Given) (r : Lengths e g) (short : length (written e g) ≤ 16777216) where
  head_short : head_length g ≤ 16777216
  unfolding written_length
  head_short = let q = length_laid e g r in omega arith

  body_short : 1 ≤ e → body_length g ≤ 16777216
  unfolding written_length
  body_short h =
      let q : length (written e g) ≡ head_length g + body_length g = simp (le-leb 1 e h) at (length_laid e g r) in
      omega arith

  -- ---- the sections are whole
  pub whole_head : WholeHead (sections_from e g)
  unfolding sections_from head_length
  whole_head =
      let h = head_short in
      let t = whole_from (resource_size_lem e) g.resources r.resources in
      record {
        four = rw r.runtime (size_four e);
        least = rw r.runtime (size_mono 0 e (omega arith));
        small = omega arith;
        resources = t;
        few = count_small t (unfold records_from in omega arith);
      }

  pub whole_body : 1 ≤ e → WholeBody (sections_from e g)
  unfolding sections_from body_length records_from
  whole_body h =
      let b = body_short h in
      record {
        strings4 = r.strings;
        strings_small = omega arith;
        indices4 = r.indices;
        indices_small = omega arith;
        elements = whole_from element_size g.elements (whole_elements e g r);
        counts = rw elements_kept (omega (arith, r.elements));
        masks = rw masks_kept r.masks;
      }

  -- ---- and read back
  pub size_back : u32_at (written e g) 0 ≡ size_of e
  unfolding written sections_from
  size_back = head_size (sections_from e g) _ whole_head ∙ r.runtime

  -- in edition 0 nothing is left after section 2, and sections 3 to 6 are read as empty
  module _ (z : e ≡ 0) where
    s : Sections
    s = sections_from e g

    d : List ℕ
    d = head_laid s []

    nothing_left : after2 d ≡ []
    unfolding d s
    nothing_left = head_after2 s [] whole_head

    runtime_0 : runtime_of d ≡ g.runtime
    unfolding d s sections_from
    runtime_0 = head_runtime s [] whole_head

    edition_0 : length g.runtime ≤ 24
    edition_0 = rw (r.runtime, z) (omega arith)

    total_0 : element_total (guide_of d) ≡ 0
    total_0 = rw (runtime_0, elements_kept) (no_elements g.runtime edition_0)

    masks_0 : mask_bytes_of (guide_of d) ≡ 0
    masks_0 = rw (runtime_0, masks_kept) (no_masks g.runtime edition_0)

    sections_0 : sections (head_laid (sections_from e g) []) ≡ sections_from e g
    unfolding sections sections_from records_from records d s
    sections_0 =
        let none = no_body_lem g (r.none z) in
        let strings : counted 1 (after2 d) ≡ g.strings = rw (nothing_left, counted_none, none.strings) in
        let indices : counted 4 (after3 d) ≡ g.indices = rw (nothing_left, after_counted_none, counted_none, none.indices) in
        let elements : records (element_total (guide_of d)) (after4 d) ≡ records_from 16 g.elements = rw (total_0, none.elements) in
        let masks : take (mask_bytes_of (guide_of d)) (after5 d) ≡ g.masks = rw (masks_0, none.masks) in
        λ i.
        record {
          runtime = runtime_0 i;
          resources = head_resources s [] whole_head i;
          strings = strings i;
          indices = indices i;
          elements = elements i;
          masks = masks i;
        }

  pub sections_back : sections (written e g) ≡ sections_from e g
  sections_back =
      by_edition e (λ z. rw (written_0 e g z) (sections_0 z)) (λ h. rw (written_1 e g h) (read_back (sections_from e g) [] whole_head (whole_body h)))
