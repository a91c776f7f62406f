-- What the writer accepts, written: a reading hands out what was given, and the data are plain.
-- Assumes nothing.
use Prim.Native.Nat.{ℕ, ◌≤◌}
use mathlib.Core.Path.{◌≡◌, sym, ap}
use mathlib.Core.List.{List, []}
use native.Mathlib.Omega.{arith}
use lib.ListN.{length, drop}
use lib.Seq.{take_all, drop_at}
use borrow.Author.Tests.{le-leb, leb-true}
use Rattle.constants.specs.Edition.{size_of}
use Rattle.wire.specs.Verdict.{Accepted}
use Rattle.wire.proofs.Verdicts.{check_then, then_accepted}
use Rattle.psv0_layout.specs.Field.{mask_bytes_of}
use Rattle.psv0_layout.specs.Handed.{from_one, handed}
use Rattle.psv0_layout.specs.Judged.{opened}
use Rattle.psv0_layout.specs.Laid.{head_laid, body_laid}
use Rattle.psv0_layout.specs.Layout.{Sections, guide_of, after2, after5}
use Rattle.psv0_layout.proofs.Layouts.{head_runtime, head_after2, body_after5, mask_size}
use Rattle.psv0_writer_layout.specs.Plain.{PlainForm, handed_out}
use Rattle.psv0_writer_layout.specs.Written.{Given, records_from, sections_from, written, writer_judged}
use Rattle.psv0_writer_layout.proofs.GivenRecords.{element_size, resource_size_lem, stride_from}
use Rattle.psv0_writer_layout.proofs.Lengths.{Lengths, lengths_told}
use Rattle.psv0_writer_layout.proofs.WrittenSections.{by_edition, NoBody, no_body_lem, written_0, written_1, whole_head, whole_body, size_back, sections_back}

-- what the writer's answer tells
pub record Passed (e : ℕ) (g : Given) : Type 0 where
  pub few : e ≤ 3
  pub lengths : Lengths e g
  pub short : length (written e g) ≤ 16777216
  pub accepted : opened 3 (written e g) ≡ Accepted

pub passed : (e : ℕ) (g : Given) (room : ℕ) → writer_judged e g room ≡ Accepted → Passed e g
unfolding writer_judged
passed e g room a =
    let (c25, a1) = check_then _ _ _ _ a in
    let (c27, a2) = check_then _ _ _ _ a1 in
    let (c2, a3) = check_then _ _ _ _ a2 in
    record { few = leb-true _ _ c25; lengths = lengths_told e g c27; short = leb-true _ _ c2; accepted = (then_accepted _ _ a3).0 }

module _ (e : ℕ) (g : Given) (p : Passed e g) where
  -- ---- a section that edition 0 leaves unset is empty there
  unset_empty : (l : List ℕ) → (e ≡ 0 → l ≡ []) → from_one e l ≡ l
  unset_empty l z = by_edition e (λ q. rw (z q, q)) (λ h. simp (le-leb 1 e h))

  pub handed_back : handed_out e (written e g) ≡ g
  unfolding handed_out handed sections_from records_from
  handed_back =
      let r = p.lengths in
      let none : e ≡ 0 → NoBody g = λ z. no_body_lem g (r.none z) in
      let same = sections_back e g r p.short in
      let runtime : (handed_out e (written e g)).runtime ≡ g.runtime = rw same (take_all (size_of e) g.runtime (omega (arith, r.runtime))) in
      let resources : (handed_out e (written e g)).resources ≡ g.resources = ap (λ (s : Sections). s.resources.bytes) same in
      let strings : (handed_out e (written e g)).strings ≡ g.strings = rw same (unset_empty g.strings (λ z. (none z).strings)) in
      let indices : (handed_out e (written e g)).indices ≡ g.indices = rw same (unset_empty g.indices (λ z. (none z).indices)) in
      let elements : (handed_out e (written e g)).elements ≡ g.elements = rw same (unset_empty g.elements (λ z. (none z).elements)) in
      let masks : (handed_out e (written e g)).masks ≡ g.masks = rw same (unset_empty g.masks (λ z. (none z).masks)) in
      λ i.
      record {
        runtime = runtime i;
        resources = resources i;
        strings = strings i;
        indices = indices i;
        elements = elements i;
        masks = masks i;
      }

  -- ---- nothing stands after the last section
  none_after_head_lem : e ≡ 0 → after2 (written e g) ≡ []
  none_after_head_lem z = rw (written_0 e g z) (head_after2 (sections_from e g) [] (whole_head e g p.lengths p.short))

  none_after_masks_lem : 1 ≤ e → drop (mask_bytes_of (guide_of (written e g))) (after5 (written e g)) ≡ []
  none_after_masks_lem h =
      let s = sections_from e g in
      let d = head_laid s (body_laid s []) in
      let wh = whole_head e g p.lengths p.short in
      let wb = whole_body e g p.lengths p.short h in
      let er = head_runtime s (body_laid s []) wh in
      let e2 = head_after2 s (body_laid s []) wh in
      rw (written_1 e g h, body_after5 d [] s wb er e2) (drop_at s.masks [] _ (sym (mask_size d [] s wb er e2)))

  pub written_plain : PlainForm e (written e g)
  unfolding sections_from
  written_plain =
      let same = sections_back e g p.lengths p.short in
      record {
        edition = p.few;
        accepted = p.accepted;
        size = size_back e g p.lengths p.short;
        resources = rw same (stride_from (resource_size_lem e) g.resources);
        elements = λ h. rw same (stride_from element_size g.elements);
        none_after_head = none_after_head_lem;
        none_after_masks = none_after_masks_lem;
      }
