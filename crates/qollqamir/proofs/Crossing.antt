-- Spans and signatures that cross the boundary.
-- Assumes nothing.
use Rattle.std.specs.Prelude.{Option, Some, None, Result, Ok, Err}
use Prim.Native.Nat.{ℕ, ◌≤◌, ◌<◌}
use mathlib.Core.Path.{◌≡◌, refl, sym, ◌∙◌, ap}
use mathlib.Core.Bool.{Bool, true, false}
use mathlib.Core.List.{List, []}
use native.Mathlib.Omega.{arith}
use lib.Dec.{ltb}
use Rattle.wire.specs.declared.Refusal.{Refusal}
use Rattle.wire.specs.Verdict.{Verdict, Accepted, Refused, verdict_of}
use Rattle.constants.specs.Edition.{file_edition_of}
use Rattle.constants.proofs.Editions.{edition_few}
use Rattle.wire.specs.Number.{u32_at}
use Rattle.part_table_layout.specs.Table.{count_of}
use Rattle.part_table_layout.proofs.Accepted.{accepted_told}
use Rattle.wire.specs.Choice.{choose}
use Rattle.wire.proofs.Verdicts.{accepted_by, value_by}
use Rattle.container.specs.Opened.{container_opening_of, container_places_of}
use Rattle.container.proofs.Queries.{opening_refused, opening_accepted}
use Rattle.container.specs.declared.ContainerOpening.{ContainerOpening}
use Rattle.container.specs.declared.ContainerPlaces.{ContainerPlaces}
use Rattle.container_layout.specs.Container.{psv_of, container_judged}
use Rattle.container_layout.proofs.Containers.{before_told, opened_told}
use Rattle.places_layout.specs.Answers.{SectionBy}
use Rattle.places_layout.specs.Placed.{opened_places}
use Rattle.places_layout.specs.declared.PlacesAnswer.{PlacesAnswer}
use Rattle.places_layout.specs.declared.SectionPlaces.{SectionPlaces}
use Rattle.psv0_layout.proofs.Spans.{nothing_shows}
use Rattle.psv0_layout.specs.Answers.{bytes_of, bytes_beside, section_of, SpanOf, SpanShows}
use Rattle.psv0_layout.specs.declared.Section.{Section}
use Rattle.psv0_layout.specs.declared.Span.{Span}
use Rattle.psv0_layout.specs.Handed.{handed}
use Rattle.psv0_layout.specs.Shown.{Value, queried}
use Rattle.replacing_layout.specs.Answer.{replacement_of}
use Rattle.replacing_layout.specs.declared.Replacement.{Replacement}
use Rattle.replacing_layout.proofs.Replacing.{passed_told}
use Rattle.qollqamir.specs.Boundary.{is_string_of, points_number, c_span, no_part, CShows, section_numbered, section_verdict, section_shown, placed_section}
use Rattle.qollqamir.specs.declared.CSpan.{CSpan}

module _ {d : List ℕ} {v : Verdict} {l : List ℕ} {c : Option ℕ} where
  span_crossed : {x : Span} → SpanOf d l c x → v ≡ Accepted → CShows d v l c (c_span (Ok x))
  span_crossed {x} h e =
      record {
        verdict = rw e;
        inside = h.inside;
        bytes = h.bytes;
        refused = λ n p q. absurd (let z : ◌≡◌ {A = ℕ} 0 1 = cc in omega arith);
        string = ap is_string_of h.points;
        points = ap points_number h.points;
      }

  none_crossed : {q : Refusal} → (l ≡ []) × (c ≡ None) → v ≡ Refused q.number q.place → CShows d v l c (c_span (Err q))
  none_crossed {q} h e =
      record {
        verdict = rw e;
        inside = omega arith;
        bytes = sym h.0;
        refused = λ n p z. (refl, refl, refl, refl);
        string = rw h.1;
        points = rw h.1;
      }

  pub crossed : {s : Result Span Refusal} {r : CSpan} → SpanShows d v l c s → r ≡ c_span s → CShows d v l c r
  unfolding verdict_of
  crossed {s} h e = rw e (go s refl)
    where
      go : (t : Result Span Refusal) → s ≡ t → CShows d v l c (c_span t)
      go (Ok x) q = span_crossed (h.shown q) (sym h.verdict ∙ ap verdict_of q)
      go (Err u) q = none_crossed (h.refused q) (sym h.verdict ∙ ap verdict_of q)

-- ---- a number that names something or nothing: the test t tells which, and y is what it names
module _ {A : Type 0} (y : A) {o : Option A} where
  pub named : (t : Bool) → o ≡ choose t (Some y) None → {s : A} → o ≡ Some s → (t ≡ true) × (s ≡ y)
  named true h e = (refl, let z : ◌≡◌ {A = Option A} (Some _) (Some y) = sym e ∙ h in cc)
  named false h e = absurd (let z : ◌≡◌ {A = Option A} None (Some _) = sym h ∙ e in let w : ◌≡◌ {A = ℕ} 0 1 = cc in omega arith)

  pub unnamed : (t : Bool) → o ≡ choose t (Some y) None → o ≡ None → t ≡ false
  unnamed true h e = absurd (let z : ◌≡◌ {A = Option A} None (Some y) = sym e ∙ h in let w : ◌≡◌ {A = ℕ} 0 1 = cc in omega arith)
  unnamed false h e = refl

  -- what is answered of the one and of the other
  module _ {B : Type 0} (f : A → B) (x : B) {a : B} (t : Bool) (h : o ≡ choose t (Some y) None) where
    pub answered_named : {s : A} → o ≡ Some s → a ≡ f s → a ≡ choose t (f y) x
    answered_named e q = let z = named t h e in q ∙ rw (z.0, z.1)

    pub answered_unnamed : o ≡ None → a ≡ x → a ≡ choose t (f y) x
    answered_unnamed e q = let z = unnamed t h e in q ∙ rw z

-- ---- a section by its number n
module _ (n : ℕ) {q : Option Section} (hq : q ≡ choose (ltb n 6) (Some (section_numbered n)) None) {s : Result Span Refusal} {r : CSpan} (hr : r ≡ c_span s) where
  module _ (d : List ℕ) (o : Verdict) (er : ℕ) (a : List ℕ) (x : Value) where
    pub no_section : q ≡ None → SpanShows d (queried o x) (bytes_of x) None s → CShows d (section_verdict n o x) (section_shown n o er a x) None r
    unfolding section_verdict section_shown
    no_section e g = let z = unnamed (section_numbered n) (ltb n 6) hq e in rw z (crossed g hr)

    pub some_section : {t : Section} → q ≡ Some t → SpanShows d o (bytes_beside o (handed er a (section_of t))) None s
        → CShows d (section_verdict n o x) (section_shown n o er a x) None r
    unfolding section_verdict section_shown
    some_section e g = let z = named (section_numbered n) (ltb n 6) hq e in rw z.0 (crossed (rw z.1 at g) hr)

  -- the same by places
  module _ (p : SectionPlaces) (b : List ℕ) where
    pub no_placed_section : q ≡ None → s ≡ Err (record { number = 26; place = 0 })
        → CShows b (placed_section n p b).verdict (bytes_of (placed_section n p b).value) None r
    unfolding placed_section
    no_placed_section e g = let z = unnamed (section_numbered n) (ltb n 6) hq e in rw z (crossed (nothing_shows b g refl) hr)

    pub some_placed_section : {t : Section} → q ≡ Some t → SectionBy p b t s
        → CShows b (placed_section n p b).verdict (bytes_of (placed_section n p b).value) None r
    unfolding placed_section
    some_placed_section e g = let z = named (section_numbered n) (ltb n 6) hq e in rw z.0 (crossed (rw z.1 at g) hr)

-- ---- what a number that names no signature part is answered with, by what opening gives, o
module _ (k : ℕ) (b : List ℕ) {o : Result ContainerOpening Refusal} (ho : o ≡ container_opening_of k b) where
  pub no_part_refused : {e : Refusal} → o ≡ Err e → e ≡ no_part (container_judged k b)
  no_part_refused e = rw (opening_refused k b ho e)

  pub no_part_opened : {x : ContainerOpening} → o ≡ Ok x → record { number = 26; place = 0 } ≡ no_part (container_judged k b)
  no_part_opened e = rw (opening_accepted k b ho e)

-- ---- an opening with places: its numbers are small
pub psv_opened_small : (k : ℕ) (d : List ℕ) {w : Result PlacesAnswer Refusal} → w ≡ opened_places k d → {o : PlacesAnswer} → w ≡ Ok o → o.file_edition < 4294967296
unfolding opened_places
psv_opened_small k d h e = rw (value_by _ _ h e) (omega (arith, edition_few (u32_at d 0)))

pub opened_small : (k : ℕ) (b : List ℕ) {w : Result ContainerPlaces Refusal} → w ≡ container_places_of k b → {o : ContainerPlaces} → w ≡ Ok o
    → (o.parts < 4294967296) × (o.file_edition < 4294967296)
unfolding container_places_of
opened_small k b h e =
    let few = (accepted_told b (before_told k b (opened_told k b (accepted_by _ _ h e)).0).table).header.few in
    rw (value_by _ _ h e) (omega arith, omega (arith, edition_few (u32_at (psv_of b) 0)))

-- ---- a container with other PSV0 data is no longer than the limit
pub replaced_small : (k : ℕ) (b new : List ℕ) (room : ℕ) {w : Result Replacement Refusal} → w ≡ replacement_of k b new room → {a : Replacement} → w ≡ Ok a
    → a.len < 4294967296
unfolding replacement_of
replaced_small k b new room h e = rw (value_by _ _ h e) (omega (arith, (passed_told k b new room (accepted_by _ _ h e)).short))
