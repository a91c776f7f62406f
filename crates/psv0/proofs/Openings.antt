-- An opening and then a query by its places: what is answered beside each verdict.
-- Assumes nothing.
use Rattle.std.specs.Prelude.{None, Result, Ok, Err, IsErr, IsErrAnd}
use mathlib.Core.Path.{◌≡◌, refl, sym, ap, ap₂, ◌∙◌}
use mathlib.Core.List.{List}
use Prim.Native.Nat.{ℕ}
use Rattle.constants.specs.Edition.{file_edition_of}
use Rattle.wire.specs.Number.{u32_at}
use Rattle.wire.specs.Verdict.{◌then◌, under, Accepted, Refused}
use Rattle.wire.specs.declared.Refusal.{Refusal}
use Rattle.wire.proofs.Verdicts.{refuses, accepts, refused_by, accepted_by, value_by}
use Rattle.psv0_layout.specs.Answers.{opening_of, info_answer_of, resource_answer_of, element_answer_of, lengths_answer_of, lengths_of, question_of, points_of, section_of, bytes_of, bytes_beside, SpanShows}
use Rattle.psv0_layout.specs.Handed.{handed}
use Rattle.psv0_layout.specs.Judged.{opened}
use Rattle.psv0_layout.specs.Layout.{edition_read_of}
use Rattle.psv0_layout.specs.Shown.{Value, unset, Question, shown, queried, answered}
use Rattle.psv0_layout.specs.declared.Section.{Section}
use Rattle.psv0_layout.specs.declared.Span.{Span}
use Rattle.psv0_layout.specs.declared.View.{View}
use Rattle.psv0_layout.proofs.Spans.{passed_err, nothing_shows, no_points}
use Rattle.psv0_sections.specs.Places.{located_of}
use Rattle.psv0_sections.specs.declared.Places.{Places}
use Rattle.places_layout.specs.Answers.{info_by, resource_by, element_by, lengths_by, ViewBy, SectionBy}
use Rattle.places_layout.specs.Placed.{places_at, opened_places}
use Rattle.places_layout.specs.declared.PlacesAnswer.{PlacesAnswer}
use Rattle.places_layout.specs.declared.SectionPlaces.{SectionPlaces}
use Rattle.places_layout.proofs.Fresh.{info_fresh, resource_fresh, element_fresh, lengths_fresh, view_fresh, section_fresh}
use Rattle.places_layout.proofs.Placing.{alone}
use Rattle.psv0.specs.Reading.{Reading}
use Rattle.psv0.proofs.Accepted.{head, edition_is}

-- ---- the opening, by the places p that were found
module _ (k : ℕ) (d : List ℕ) {w : Result Places Refusal} (e : w ≡ located_of k d) {p : Places} (a : w ≡ Ok p) where
  opens : opened k d ≡ Accepted
  unfolding located_of
  opens = accepted_by _ _ e a

  pub reading : Reading d p
  unfolding located_of
  reading = record { edition = k; accepted = opens; places = value_by _ _ e a }

  read_at : p.edition ≡ edition_read_of k d
  unfolding reading
  read_at = edition_is reading

  file_is : (f : ℕ) → f ≡ file_edition_of p.size → f ≡ file_edition_of (u32_at d 0)
  file_is f q = rw (q, (head reading).size)

  pub opening_accepted : (f : ℕ) → f ≡ file_edition_of p.size
      → Ok (record { file_edition = f; edition_read = p.edition }) ≡ opening_of (opened k d) (file_edition_of (u32_at d 0)) (edition_read_of k d)
  opening_accepted f q = (λ i. Ok (record { file_edition = file_is f q i; edition_read = read_at i })) ∙ accepts _ _ (sym opens)

  pub places_accepted : (f : ℕ) (s : SectionPlaces) → f ≡ file_edition_of p.size → s ≡ places_at 0 p.edition d
      → Ok (record { file_edition = f; places = s }) ≡ opened_places k d
  unfolding opened_places
  places_accepted f s q h =
      let places : s ≡ places_at 0 (edition_read_of k d) d = h ∙ rw read_at in
      (λ i. Ok (record { file_edition = file_is f q i; places = places i })) ∙ accepts _ _ (sym opens)

-- ---- a query after an opening with places
module _ (k : ℕ) (d : List ℕ) {w : Result PlacesAnswer Refusal} (e : w ≡ opened_places k d) where
  -- an opening that accepts
  module _ {a : PlacesAnswer} (v : w ≡ Ok a) where
    accepted : opened k d ≡ Accepted
    unfolding opened_places
    accepted = accepted_by _ _ e v

    places_are : a.places ≡ places_at 0 (edition_read_of k d) d
    unfolding opened_places
    places_are = ap (λ (x : PlacesAnswer). x.places) (value_by _ _ e v)

    shown_is : shown k d ≡ answered k d
    unfolding answered
    shown_is = λ i q. shows q i
      where
        shows : (q : Question) → shown k d q ≡ answered k d q
        shows q = rw accepted

    pub info_accepted : info_by a.places d ≡ info_answer_of (opened k d) (answered k d)
    info_accepted = rw places_are (info_fresh (alone d) k accepted ∙ ap₂ info_answer_of (sym accepted) shown_is)

    pub lengths_accepted : Ok (lengths_by a.places d) ≡ lengths_answer_of (opened k d) (answered k d)
    unfolding lengths_answer_of
    lengths_accepted = rw places_are (ap Ok (lengths_fresh (alone d) k accepted ∙ ap lengths_of shown_is) ∙ accepts _ _ (sym accepted))

    pub resource_accepted : (i : ℕ) → resource_by a.places d i ≡ resource_answer_of (opened k d) (answered k d) i
    resource_accepted i = rw places_are (resource_fresh (alone d) k accepted i ∙ ap₂ (λ o x. resource_answer_of o x i) (sym accepted) shown_is)

    pub element_accepted : (i : ℕ) → element_by a.places d i ≡ element_answer_of (opened k d) (answered k d) i
    element_accepted i = rw places_are (element_fresh (alone d) k accepted i ∙ ap₂ (λ o x. element_answer_of o x i) (sym accepted) shown_is)

    pub span_accepted : (v : View) (s : Result Span Refusal) → ViewBy a.places d v s
        → SpanShows d (queried (opened k d) (answered k d (question_of v))) (bytes_of (answered k d (question_of v))) (points_of v (answered k d)) s
    span_accepted v s h = rw (← shown_is, accepted) (view_fresh (alone d) k accepted v s (rw places_are at h))

    pub section_accepted : (t : Section) (s : Result Span Refusal) → SectionBy a.places d t s
        → SpanShows d (opened k d) (bytes_beside (opened k d) (handed (edition_read_of k d) d (section_of t))) None s
    section_accepted t s h = rw accepted (section_fresh (alone d) k accepted t s (rw places_are at h))

  -- an opening that refuses
  module _ {r : Refusal} (v : w ≡ Err r) where
    shut : opened k d ≡ Refused r.number r.place
    unfolding opened_places
    shut = refused_by _ _ e v

    hidden : (λ q. unset) ≡ answered k d
    unfolding answered
    hidden = λ i q. hides q i
      where
        hides : (q : Question) → unset ≡ answered k d q
        hides q = rw shut

    -- and what `?` then returns
    module _ {B : Type 0} {q : Result B Refusal} (h : IsErr q × IsErrAnd q (λ (s : Refusal). s ≡ r)) where
      pub opening_refused : (y : B) → q ≡ under (opened k d) y
      opening_refused y = refuses _ _ (passed_err q h) (sym shut)

      pub query_refused : (x : Value) (y : B) → q ≡ under (queried (opened k d) x) y
      unfolding queried ◌then◌
      query_refused x y = refuses _ _ (passed_err q h) (rw shut)

    module _ {s : Result Span Refusal} (h : IsErr s × IsErrAnd s (λ (y : Refusal). y ≡ r)) where
      pub span_refused : (t : View)
          → SpanShows d (queried (opened k d) (answered k d (question_of t))) (bytes_of (answered k d (question_of t))) (points_of t (answered k d)) s
      unfolding queried ◌then◌
      span_refused t = rw (← hidden, shut, no_points t) (nothing_shows d (passed_err s h) refl)

      pub section_refused : (t : Section) → SpanShows d (opened k d) (bytes_beside (opened k d) (handed (edition_read_of k d) d (section_of t))) None s
      section_refused t = rw shut (nothing_shows d (passed_err s h) refl)
