-- What a reading of plain data hands out: the sections' bytes, of the right lengths, and laid out again the data.
-- Assumes nothing.
use Prim.Native.Nat.{ℕ, ◌%◌, ◌≤◌}
use mathlib.Core.Path.{◌≡◌, refl, sym, ◌∙◌}
use mathlib.Core.List.{List, []}
use native.Mathlib.Omega.{arith}
use native.Mathlib.Nat.{mul-mod_left}
use lib.ListN.{length, take}
use lib.Seq.{take_all}
use borrow.Author.Tests.{le-leb, leb-true}
use Rattle.constants.specs.Edition.{size_of}
use Rattle.wire.specs.Number.{Bytes}
use Rattle.wire.specs.Verdict.{Accepted}
use Rattle.wire.proofs.Verdicts.{check_then, then_accepted, from_accepted}
use Rattle.psv0_layout.specs.Field.{element_total, mask_bytes_of}
use Rattle.psv0_layout.specs.Handed.{handed}
use Rattle.psv0_layout.specs.Judged.{head_judged, body_fits, judged_at, opened}
use Rattle.psv0_layout.specs.Laid.{head_laid, body_laid}
use Rattle.psv0_layout.specs.Layout.{guide_of, after2, sections, edition_read_of}
use Rattle.psv0_layout.proofs.Layouts.{WholeHead, WholeBody}
use Rattle.psv0_layout.proofs.Wholes.{runtime_length, head_whole, body_whole}
use Rattle.psv0_writer_layout.specs.Plain.{PlainForm, handed_out}
use Rattle.psv0_writer_layout.specs.Written.{Given, resource_size_of, records_from, sections_from, written}
use Rattle.psv0_writer_layout.proofs.GivenRecords.{element_size, resource_size_lem, from_whole, whole_length}
use Rattle.psv0_writer_layout.proofs.Lengths.{Lengths}
use Rattle.psv0_writer_layout.proofs.Relaid.{head_again, body_again}
use Rattle.psv0_writer_layout.proofs.Runtime.{elements_kept, masks_kept, no_elements, no_masks}
use Rattle.psv0_writer_layout.proofs.WrittenSections.{by_edition, edition_again, written_0, written_1}

-- the bytes of sections 1 and 2, and of all six
abbrev head_out : List ℕ → Given
head_out d = record { runtime = (sections d).runtime; resources = (sections d).resources.bytes; strings = []; indices = []; elements = []; masks = [] }

abbrev all_out : List ℕ → Given
all_out d =
    record {
      runtime = (sections d).runtime;
      resources = (sections d).resources.bytes;
      strings = (sections d).strings;
      indices = (sections d).indices;
      elements = (sections d).elements.bytes;
      masks = (sections d).masks;
    }

module _ (e : ℕ) (d : List ℕ) (p : PlainForm e d) where
  -- ---- what the opening tells
  pub plain_edition : edition_read_of 3 d ≡ e
  plain_edition = edition_again e d p.edition p.size

  pub plain_short : length d ≤ 16777216
  unfolding opened
  plain_short = leb-true _ _ (check_then _ _ _ _ (check_then _ _ _ _ p.accepted).1).0

  judged : judged_at e d ≡ Accepted
  unfolding opened
  judged = rw plain_edition at (check_then _ _ _ _ (check_then _ _ _ _ p.accepted).1).1

  head : head_judged d ≡ Accepted
  unfolding judged_at
  head = (then_accepted _ _ judged).0

  body : 1 ≤ e → body_fits (after2 d) (element_total (guide_of d)) (mask_bytes_of (guide_of d)) ≡ Accepted
  unfolding judged_at
  body h = (then_accepted _ _ (then_accepted _ _ (from_accepted 1 e _ h (then_accepted _ _ judged).1)).1).0

  whole_head : WholeHead (sections d)
  whole_head = head_whole d head plain_short

  whole_body : 1 ≤ e → WholeBody (sections d)
  whole_body h = body_whole d plain_short (body h)

  -- ---- the bytes handed out
  size : length (sections d).runtime ≡ size_of e
  size = runtime_length d head ∙ p.size

  all_runtime : take (size_of e) (sections d).runtime ≡ (sections d).runtime
  all_runtime = take_all (size_of e) (sections d).runtime (omega (arith, size))

  out_0 : e ≡ 0 → handed_out e d ≡ head_out d
  unfolding handed_out handed
  out_0 z = rw (all_runtime, z)

  out_1 : 1 ≤ e → handed_out e d ≡ all_out d
  unfolding handed_out handed
  out_1 h = simp (all_runtime, le-leb 1 e h)

  -- ---- their lengths are right
  resources_length : length (sections d).resources.bytes % resource_size_of e ≡ 0
  resources_length = rw (whole_length (resource_size_lem e) whole_head.resources p.resources) (mul-mod_left _ (resource_size_of e))

  lengths_0 : e ≡ 0 → Lengths e (head_out d)
  lengths_0 z =
      let short : length (sections d).runtime ≤ 24 = rw (size, z) (omega arith) in
      record {
        runtime = size;
        resources = resources_length;
        strings = refl;
        indices = refl;
        elements = rw (no_elements (sections d).runtime short);
        masks = sym (no_masks (sections d).runtime short);
        none = λ z'. refl;
      }

  lengths_1 : 1 ≤ e → Lengths e (all_out d)
  lengths_1 h =
      let w = whole_body h in
      record {
        runtime = size;
        resources = resources_length;
        strings = w.strings4;
        indices = w.indices4;
        elements = whole_length element_size w.elements (p.elements h) ∙ rw (w.counts, elements_kept);
        masks = w.masks ∙ masks_kept (sections d).runtime;
        none = λ z. absurd (omega arith);
      }

  pub plain_lengths : Lengths e (handed_out e d)
  plain_lengths = by_edition e (λ z. rw (out_0 z) (lengths_0 z)) (λ h. rw (out_1 h) (lengths_1 h))

  -- ---- and laid out again they are the data
  same_resources : records_from (resource_size_of e) (sections d).resources.bytes ≡ (sections d).resources
  same_resources = from_whole (resource_size_lem e) whole_head.resources p.resources

  same_sections : 1 ≤ e → sections_from e (all_out d) ≡ sections d
  unfolding sections_from
  same_sections h =
      let elements = from_whole element_size (whole_body h).elements (p.elements h) in
      λ i.
      record {
        runtime = (sections d).runtime;
        resources = same_resources i;
        strings = (sections d).strings;
        indices = (sections d).indices;
        elements = elements i;
        masks = (sections d).masks;
      }

  module _ (b : Bytes d) where
    again_0 : e ≡ 0 → head_laid (sections_from e (head_out d)) [] ≡ d
    unfolding head_laid sections_from
    again_0 z =
        rw (same_resources, ← p.none_after_head z) (unfold head_laid in head_again d b head)

    again_1 : 1 ≤ e → head_laid (sections_from e (all_out d)) (body_laid (sections_from e (all_out d)) []) ≡ d
    again_1 h = rw (same_sections h, ← p.none_after_masks h, body_again d b (body h)) (head_again d b head)

    pub plain_again : written e (handed_out e d) ≡ d
    plain_again =
        by_edition e (λ z. rw (written_0 e _ z, out_0 z) (again_0 z)) (λ h. rw (written_1 e _ h, out_1 h) (again_1 h))
