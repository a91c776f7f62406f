-- "For the bytes it was made from, each answer equals the fresh one": PSV0 data d that stand in the bytes b from the place o on, opened at edition k.
-- Assumes nothing.
use Rattle.std.specs.Prelude.{None, Result}
use Prim.Native.Nat.{ℕ}
use mathlib.Core.Path.{◌≡◌, refl, ◌∙◌, ap}
use mathlib.Core.List.{List}
use native.Mathlib.Omega.{arith}
use borrow.Author.Tests.{le-leb}
use Rattle.wire.specs.Verdict.{◌then◌, check, under, Accepted}
use Rattle.wire.specs.declared.Refusal.{Refusal}
use Rattle.psv0_layout.specs.Answers.{field_of, bytes_of, info_of, resource_of, element_of, lengths_of, info_answer_of, resource_answer_of, element_answer_of, question_of, points_of, section_of, SpanShows}
use Rattle.psv0_layout.specs.Handed.{Section, handed}
use Rattle.psv0_layout.specs.Judged.{opened}
use Rattle.psv0_layout.specs.Layout.{edition_read_of}
use Rattle.psv0_layout.specs.Shown.{view, Question, least_lanes, resource_field, element_field, value, shown_at, shown, queried}
use Rattle.psv0_layout.specs.declared.Section as cases
use Rattle.psv0_layout.specs.declared.Span.{Span}
use Rattle.psv0_layout.specs.declared.View.{View}
use Rattle.places_layout.specs.Answers.{shown_by, info_by, resource_by, element_by, lengths_by, ViewBy, SectionBy}
use Rattle.places_layout.specs.Handed.{handed_by}
use Rattle.places_layout.specs.Placed.{places_at}
use Rattle.places_layout.specs.Read.{Answer, given, answered_by}
use Rattle.places_layout.specs.declared.SectionPlaces.{SectionPlaces}
use Rattle.places_layout.proofs.Answering.{answer_of, answers_same}
use Rattle.places_layout.proofs.Handing.{handed_same}
use Rattle.places_layout.proofs.Placing.{PartAt, places_hold, references_good}

module _ {b d : List ℕ} {o : ℕ} (h : PartAt b d o) (k : ℕ) (j : opened k d ≡ Accepted) where
  abbrev p : SectionPlaces
  p = places_at o (edition_read_of k d) d

  -- every question, and every section's bytes
  pub answers_fresh : (q : Question) → answered_by p b q ≡ answer_of (shown k d q)
  unfolding shown_at
  answers_fresh q = answers_same (places_hold h k j) (references_good k d j) q

  pub hands_fresh : (t : Section) → handed_by p b t ≡ given (view (handed (edition_read_of k d) d t))
  hands_fresh t = handed_same d (places_hold h k j) t

  -- ---- and so every call
  verdict_is : (q : Question) → (answered_by p b q).verdict ≡ queried Accepted (shown k d q)
  verdict_is q = ap (λ (a : Answer). a.verdict) (answers_fresh q)

  pub shown_is : shown_by p b ≡ shown k d
  unfolding shown_by
  shown_is = λ i q. (answers_fresh q i).value

  lanes_set : queried Accepted (shown k d least_lanes) ≡ Accepted
  unfolding queried ◌then◌ check shown_at value
  lanes_set = rw (le-leb 0 (edition_read_of k d) (omega arith)) refl

  pub info_fresh : info_by p b ≡ info_answer_of Accepted (shown k d)
  unfolding info_by info_answer_of
  info_fresh = let v = verdict_is least_lanes ∙ lanes_set in λ i. under (v i) (info_of (shown_is i))

  pub resource_fresh : (n : ℕ) → resource_by p b n ≡ resource_answer_of Accepted (shown k d) n
  unfolding resource_by resource_answer_of
  resource_fresh n = λ i. under (verdict_is (resource_field n 0) i) (resource_of (λ f. field_of (shown_is i (resource_field n f))))

  pub element_fresh : (n : ℕ) → element_by p b n ≡ element_answer_of Accepted (shown k d) n
  unfolding element_by element_answer_of
  element_fresh n = λ i. under (verdict_is (element_field n 0) i) (element_of (λ f. field_of (shown_is i (element_field n f))))

  pub lengths_fresh : lengths_by p b ≡ lengths_of (shown k d)
  unfolding lengths_by
  lengths_fresh = ap lengths_of shown_is

  pub view_fresh : (v : View) (s : Result Span Refusal) → ViewBy p b v s
      → SpanShows b (queried Accepted (shown k d (question_of v))) (bytes_of (shown k d (question_of v))) (points_of v (shown k d)) s
  view_fresh v s w = rw (verdict_is (question_of v), shown_is) at w

  pub section_fresh : (t : cases.Section) (s : Result Span Refusal) → SectionBy p b t s → SpanShows b Accepted (handed (edition_read_of k d) d (section_of t)) None s
  section_fresh t s w = rw (hands_fresh (section_of t)) at w
