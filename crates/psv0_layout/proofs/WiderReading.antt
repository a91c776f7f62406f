-- What a reading at edition k makes of wider data: it looks at the same of both, and so it accepts them and shows the same.
-- Assumes nothing.
use Prim.Native.Nat.{ℕ, ◌≤◌}
use mathlib.Core.Path.{◌≡◌, ◌∙◌, ap}
use mathlib.Core.List.{List}
use native.Mathlib.Omega.{arith}
use native.Mathlib.Nat.{le_trans}
use lib.Dec.{leb}
use lib.ListN.{length, take, length-append}
use lib.Seq.{take-append-le}
use borrow.Author.Tests.{leb-true}
use Rattle.constants.specs.Edition.{size_of}
use Rattle.constants.proofs.Editions.{size_mono, edition_read_lem}
use Rattle.wire.specs.Number.{u32_at}
use Rattle.wire.specs.Verdict.{Accepted}
use Rattle.wire.proofs.Choices.{choose_eq}
use Rattle.wire.proofs.Verdicts.{then_accepted, from_accepted, from_is, accepted_then}
use Rattle.psv0_layout.specs.Field.{element_total, mask_bytes_of}
use Rattle.psv0_layout.specs.Judged.{head_judged, body_fits, judged_at}
use Rattle.psv0_layout.specs.Laid.{head_laid, body_laid}
use Rattle.psv0_layout.specs.Layout.{Sections, runtime_of, guide_of, after2, sections, no_body, body_of, seen, edition_read_of}
use Rattle.psv0_layout.specs.Shown.{unset, Question, needs, value, shown_at, shown}
use Rattle.psv0_layout.specs.Widened.{WiderHead, WiderBody, Widening}
use Rattle.psv0_layout.proofs.Layouts.{WholeHead, WholeBody, head_size, head_runtime, head_resources, head_after2, head_accepted, body_strings, body_indices, body_elements, body_masks, body_accepted}
use Rattle.psv0_layout.proofs.Wholes.{runtime_length, head_whole, body_whole}
use Rattle.psv0_layout.proofs.Wider.{rest_short, head_wider, body_wider, resources_seen, elements_seen}

-- ---- data d that reader k reads at its own edition, and wider data that are laid out
record Compared (k : ℕ) (d : List ℕ) (new : Sections) (rest : List ℕ) : Type 0 where
  long : size_of k ≤ length (sections d).runtime
  head : WholeHead (sections d)
  body : 1 ≤ k → WholeBody (sections d)
  wider : WiderHead k (sections d) new
  tail : 1 ≤ k → (t : List ℕ) × (rest ≡ body_laid new t) × WiderBody (sections d) new
  short : length (head_laid new rest) ≤ 16777216

module _ (k : ℕ) (d : List ℕ) (new : Sections) (rest : List ℕ) (g : Compared k d new rest) where
  abbrev d' : List ℕ
  d' = head_laid new rest

  -- the new sections are whole
  new_head : WholeHead new
  new_head = head_wider k (sections d) new rest g.wider g.head g.short

  size_wider : size_of k ≤ u32_at (head_laid new rest) 0
  size_wider = rw (head_size new rest new_head, g.wider.runtime) (simp length-append (omega (arith, g.long)))

  runtime_seen : (e : ℕ) → e ≤ k → take (size_of e) (sections d').runtime ≡ take (size_of e) (sections d).runtime
  unfolding sections
  runtime_seen e h =
      rw (head_runtime new rest new_head, g.wider.runtime) (take-append-le (size_of e) _ _ (le_trans (size_mono e k h) g.long))

  module _ (k1 : 1 ≤ k) where
    abbrev t : List ℕ
    t = (g.tail k1).0

    narrow : WholeBody (sections d)
    narrow = g.body k1

    wide : WiderBody (sections d) new
    wide = (g.tail k1).2

    left : after2 d' ≡ body_laid new t
    left = head_after2 new rest new_head ∙ (g.tail k1).1

    runtime' : runtime_of d' ≡ new.runtime
    runtime' = head_runtime new rest new_head

    new_body : WholeBody new
    new_body =
        body_wider (sections d) new g.wider.extra t narrow wide (le_trans (size_mono 1 k k1) g.long) g.wider.runtime
        (rw (← (g.tail k1).1) (le_trans (rest_short k (sections d) new rest g.wider) g.short))

    body_seen : body_of (sections d') ≡ body_of (sections d)
    unfolding body_of sections
    body_seen =
        let strings = body_strings d' t new new_body runtime' left ∙ wide.strings in
        let indices = body_indices d' t new new_body runtime' left ∙ wide.indices in
        let masks = body_masks d' t new new_body runtime' left ∙ wide.masks in
        let elements : (body_of (sections d')).elements ≡ (body_of (sections d)).elements =
        rw (body_elements d' t new new_body runtime' left) (elements_seen narrow.elements wide.elements) in
        λ i. record { strings = strings i; indices = indices i; elements = elements i; masks = masks i }

    body_fits_lem : body_fits (after2 d') (element_total (guide_of d')) (mask_bytes_of (guide_of d')) ≡ Accepted
    body_fits_lem = body_accepted d' t new new_body runtime' left

  -- a reading at an edition up to k looks at the same of both
  seen_wider : (e : ℕ) → e ≤ k → seen e (sections (head_laid new rest)) ≡ seen e (sections d)
  unfolding seen
  seen_wider e h =
      let resources : (seen e (sections d')).resources ≡ (seen e (sections d)).resources =
      rw (head_resources new rest new_head) (resources_seen k e h g.head.resources g.wider.resources g.wider.allowed) in
      let body : (seen e (sections d')).body ≡ (seen e (sections d)).body =
      choose_eq (leb 1 e) _ _ no_body (λ p. body_seen (le_trans (leb-true 1 e p) h)) in
      λ i. record { runtime = runtime_seen e h i; resources = resources i; body = body i }

  -- and accepts the wider ones where it accepts the others
  judged_wider : judged_at k d ≡ Accepted → judged_at k (head_laid new rest) ≡ Accepted
  unfolding judged_at
  judged_wider e =
      accepted_then _ _ (head_accepted new rest new_head)
      (from_is 1 k _
      (λ k1.
      let (fields, e1) = then_accepted _ _ (from_accepted 1 k _ k1 (then_accepted _ _ e).1) in
      let (fits, e2) = then_accepted _ _ e1 in
      let (elements, entry) = then_accepted _ _ e2 in
      accepted_then _ _ (rw (seen_wider 1 k1) fields)
      (accepted_then _ _ (body_fits_lem k1)
      (accepted_then _ _ (rw (seen_wider 1 k1) elements)
      (from_is 3 k _ (λ h. rw (seen_wider 3 h) (from_accepted 3 k _ h entry)))))))

-- ---- data that reader k accepts
module _ (k : ℕ) (d : List ℕ) (e : judged_at k d ≡ Accepted) where
  judged_head : head_judged d ≡ Accepted
  unfolding judged_at
  judged_head = (then_accepted _ _ e).0

  judged_body : 1 ≤ k → body_fits (after2 d) (element_total (guide_of d)) (mask_bytes_of (guide_of d)) ≡ Accepted
  unfolding judged_at
  judged_body k1 = (then_accepted _ _ (then_accepted _ _ (from_accepted 1 k _ k1 (then_accepted _ _ e).1)).1).0

-- what reader k says and shows of a widening: the checks from 12 on accept it, and every question has the same value
pub record KeptJudged (k : ℕ) (d d' : List ℕ) : Type 0 where
  pub judged : judged_at (edition_read_of k d') d' ≡ Accepted
  pub shows : (q : Question) → shown k d' q ≡ shown k d q

module _ (k : ℕ) (d : List ℕ) (few : k ≤ 3) (short : length d ≤ 16777216) (long : size_of k ≤ u32_at d 0) where
  laid_kept : (new : Sections) (rest : List ℕ) → judged_at k d ≡ Accepted → Compared k d new rest → KeptJudged k d (head_laid new rest)
  unfolding shown_at
  laid_kept new rest j g =
      let er : edition_read_of k d ≡ k = edition_read_lem k _ few long in
      let er' : edition_read_of k (head_laid new rest) ≡ k = edition_read_lem k _ few (size_wider k d new rest g) in
      record {
        judged = rw er' (judged_wider k d new rest g j);
        shows = λ q.
            rw (er', er)
            (choose_eq (leb (needs q) k) _ _ unset (λ p. ap (value q) (seen_wider k d new rest g (needs q) (leb-true _ _ p))));
      }

  pub widened_judged : (d' : List ℕ) → judged_at (edition_read_of k d) d ≡ Accepted → Widening k d d' → length d' ≤ 16777216
      → KeptJudged k d d'
  widened_judged d' j w short' =
      let er : edition_read_of k d ≡ k = edition_read_lem k _ few long in
      let jk : judged_at k d ≡ Accepted = rw er at j in
      let head = judged_head k d jk in
      rw w.laid
      (laid_kept w.new w.rest jk
      (record {
        long = rw (runtime_length d head) long;
        head = head_whole d head short;
        body = λ k1. body_whole d short (judged_body k d jk k1);
        wider = w.head;
        tail = w.tail;
        short = rw w.laid at short';
      }))
