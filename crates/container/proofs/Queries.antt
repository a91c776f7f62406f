-- A query on a container is the query on its PSV0 data, or the refusal of what is checked before: one law for every query.
-- Assumes nothing.
use Rattle.std.specs.Prelude.{None, Option, Some, Result, Ok, Err}
use Prim.Native.Nat.{ℕ, ◌+◌, ◌-◌, ◌≤◌, ◌<◌}
use mathlib.Core.Path.{◌≡◌, refl, sym, ◌∙◌, ap}
use mathlib.Core.Bool.{true, true≢false}
use mathlib.Core.List.{List}
use native.Mathlib.Omega.{arith}
use lib.ListN.{length, take, drop, length-drop}
use lib.Seq.{length-take-le}
use borrow.Author.Tests.{lt-leb}
use Rattle.constants.specs.Edition.{file_edition_of}
use Rattle.wire.specs.Number.{u32_at}
use Rattle.wire.specs.Verdict.{◌then◌, check, under, verdict_of, Verdict, Accepted, Refused}
use Rattle.wire.specs.declared.Refusal.{Refusal}
use Rattle.wire.proofs.Verdicts.{verdict_is, accepted_by, refused_by, value_by, accepts, refuses, stop_then}
use Rattle.part_table_layout.specs.Lookup.{find, find_occurrence, part_at}
use Rattle.part_table_layout.specs.Table.{count_of, data_at}
use Rattle.part_table_layout.proofs.Accepted.{accepted_told, part_inside}
use Rattle.part_table_layout.proofs.Lookups.{find_told}
use Rattle.psv0_layout.specs.Answers.{bytes_beside, bytes_of, opening_of, info_answer_of, question_of, points_of, SpanShows}
use Rattle.psv0_layout.specs.declared.Opening.{Opening}
use Rattle.psv0_layout.specs.declared.Span.{Span}
use Rattle.psv0_layout.specs.declared.View.{View}
use Rattle.psv0_layout.proofs.Spans.{span_shows, nothing_shows, no_points}
use Rattle.psv0_layout.specs.Handed as handed
use Rattle.psv0_layout.specs.Judged.{opened}
use Rattle.psv0_layout.specs.Layout.{edition_read_of}
use Rattle.psv0_layout.specs.Shown.{Value, unset, Question, queried, answered}
use Rattle.psv0_layout.proofs.Positions.{part_part}
use Rattle.container_layout.specs.Container.{psv0, is_there, start_found, size_found, data_found, psv_of, before_psv, container_judged, container_answered, container_part, container_occurrence}
use Rattle.container_layout.proofs.Containers.{data_opens, before_told, opens_alone, shows_alone, refuses_before, shows_nothing}
use Rattle.container_layout.specs.Placed.{container_places}
use Rattle.container_layout.proofs.Placed.{psv_there, info_fresh}
use Rattle.places_layout.specs.Answers.{info_by}
use Rattle.places_layout.specs.Placed.{moved_by, opened_places}
use Rattle.places_layout.specs.declared.PlacesAnswer.{PlacesAnswer}
use Rattle.places_layout.proofs.Moving.{moved_places}
use Rattle.container.specs.Opened.{psv_shown, psv_part_of, container_opening_of, container_places_of}
use Rattle.container.specs.declared.ContainerOpening.{ContainerOpening}
use Rattle.container.specs.declared.ContainerPlaces.{ContainerPlaces}
use Rattle.container.specs.declared.PsvPart.{PsvPart}

-- where the data of a part that is there lie
found_inside : (k : ℕ) (b : List ℕ) → before_psv k b ≡ Accepted → (f : Option ℕ) → find b psv0 ≡ f → start_found b f + size_found b f ≤ length b
found_inside k b h (Some i) e =
    part_inside b (before_told k b h).table i (find_told b psv0 i e).listed
found_inside k b h None e = omega arith

found_data_lem : (b : List ℕ) (f : Option ℕ) → is_there f ≡ true → take (size_found b f) (drop (start_found b f) b) ≡ data_found b f
unfolding data_at
found_data_lem b (Some i) t = refl
found_data_lem b None t = absurd (true≢false (sym t))

-- what is asked of bytes that don't open is refused as they are
pub queried_refused : {o : Verdict} (v : Value) {n p : ℕ} → o ≡ Refused n p → Refused n p ≡ queried o v
unfolding queried
queried_refused {o} v h = stop_then o _ _ _ h

-- w is what the search for the PSV0 part and the name x answers
module _ (k : ℕ) (b : List ℕ) (x : ℕ) {w : Result PsvPart Refusal} (hw : w ≡ psv_part_of k b x) where
  -- ---- a refusal: nothing of the file is shown
  module _ {r : Refusal} (e : w ≡ Err r) where
    before_refused : before_psv k b ≡ Refused r.number r.place
    unfolding psv_part_of
    before_refused = refused_by _ _ hw e

    pub stops : Refused r.number r.place ≡ container_judged k b
    stops = sym (refuses_before k b before_refused)

    no_values : container_answered k b ≡ (λ q. unset)
    no_values = λ i q. shows_nothing k b before_refused q i

    module _ {s : Result Span Refusal} (h : s ≡ Err r) where
      pub no_view : (v : View)
          → SpanShows b (queried (container_judged k b) (container_answered k b (question_of v))) (bytes_of (container_answered k b (question_of v)))
          (points_of v (container_answered k b)) s
      no_view v = rw (no_values, no_points v) (nothing_shows b h (sym (queried_refused unset (sym stops))))

      pub no_section : (l : List ℕ) → SpanShows b (container_judged k b) (bytes_beside (container_judged k b) l) None s
      no_section l = rw (← stops) (nothing_shows b h refl)

    pub no_part : (y : ℕ) → Err r ≡ container_part k b y
    unfolding container_occurrence
    no_part y = rw (← stops)

  -- ---- the part p
  module _ {p : PsvPart} (e : w ≡ Ok p) where
    before_passes : before_psv k b ≡ Accepted
    unfolding psv_part_of
    before_passes = accepted_by _ _ hw e

    found : p ≡ psv_shown b x
    unfolding psv_part_of
    found = value_by _ _ hw e

    -- its data as a part of the container
    pub within : (p.start ≤ p.end) × (p.end ≤ length b)
    within = rw found (omega arith, found_inside k b before_passes (find b psv0) refl)

    all_short : length b ≤ 16777216
    all_short = (accepted_told b (before_told k b before_passes).table).header.short

    pub psv0_short : p.start ≤ 16777216
    psv0_short = let i = within in omega (arith, i.0, i.1, all_short)

    start_is : p.start ≡ start_found b (find b psv0)
    start_is = ap (λ (q : PsvPart). q.start) found

    pub count_is : p.parts ≡ count_of b
    count_is = ap (λ (q : PsvPart). q.parts) found

    asked_is : p.asked ≡ part_at b (find_occurrence b x 0)
    asked_is = ap (λ (q : PsvPart). q.asked) found

    pub data_is : take (p.end - p.start) (drop p.start b) ≡ psv_of b
    unfolding psv_of
    data_is =
        let s = start_found b (find b psv0) in
        let z : s + size_found b (find b psv0) - s ≡ size_found b (find b psv0) = omega arith in
        rw found (rw z (found_data_lem b (find b psv0) (before_told k b before_passes).validation))

    -- ---- d are the data
    module _ {d : List ℕ} (hd : d ≡ psv_of b) where
      opens_so : opened k d ≡ container_judged k b
      opens_so = rw hd (sym (opens_alone k b before_passes))

      answers_so : answered k d ≡ container_answered k b
      answers_so = rw hd (λ i q. sym (shows_alone k b before_passes q) i)

      -- what a query answers of the PSV0 data alone it answers of the container
      pub alone : {A : Type 0} (F : Verdict → (Question → Value) → A) → F (opened k d) (answered k d) ≡ F (container_judged k b) (container_answered k b)
      alone F = rw hd (λ i. F (sym (opens_alone k b before_passes) i) (λ q. sym (shows_alone k b before_passes q) i))

      -- an opening of them
      module _ {A : Type 0} (y : A) {o : Result A Refusal} (ho : o ≡ under (opened k d) y) where
        pub data_stop : {r : Refusal} → o ≡ Err r → Refused r.number r.place ≡ container_judged k b
        data_stop h = sym (refused_by _ _ ho h) ∙ opens_so

        opens_all : {z : A} → o ≡ Ok z → container_judged k b ≡ Accepted
        opens_all h = sym opens_so ∙ accepted_by _ _ ho h

        pub asked_refused : {r : Refusal} → o ≡ Err r → Err r ≡ container_part k b x
        unfolding container_occurrence
        asked_refused h = rw (← data_stop h)

        pub asked_shown : {z : A} → o ≡ Ok z → p.asked ≡ container_part k b x
        unfolding container_occurrence
        asked_shown h = let a = opens_all h in asked_is ∙ rw a

      pub opening_is : {o : Result Opening Refusal} → o ≡ opening_of (opened k d) (file_edition_of (u32_at d 0)) (edition_read_of k d) → {y : Opening} → o ≡ Ok y
          → Ok (record { parts = p.parts; file_edition = y.file_edition; edition_read = y.edition_read }) ≡ container_opening_of k b
      unfolding container_opening_of
      opening_is ho {y} h =
          let v = value_by _ _ ho h in
          let f = ap (λ (q : Opening). q.file_edition) v in
          let r = ap (λ (q : Opening). q.edition_read) v in
          let n = count_is in
          rw (n, f, r, hd) (accepts _ _ (sym (opens_all _ ho h)))

      pub placed_is : {o : Result PlacesAnswer Refusal} → o ≡ opened_places k d → {y : PlacesAnswer} → o ≡ Ok y
          → Ok (record { parts = p.parts; file_edition = y.file_edition; places = moved_by p.start y.places }) ≡ container_places_of k b
      unfolding opened_places container_places_of container_places
      placed_is ho {y} h =
          let a = opens_all _ ho h in
          let v = value_by _ _ ho h in
          let f = ap (λ (q : PlacesAnswer). q.file_edition) v in
          let g = ap (λ (q : PlacesAnswer). q.places) v in
          let n = count_is in
          let s = start_is in
          let room : start_found b (find b psv0) + length (psv_of b) ≤ 16777216 = omega (arith, (psv_there k b a).room, all_short) in
          let m = moved_places k (start_found b (find b psv0)) (psv_of b) (data_opens k b a) room in
          rw (n, f, g, s, hd, m) (accepts _ _ (sym a))

    -- ---- a stretch of the data is one of the container
    module _ {d : List ℕ} (hd : d ≡ take (p.end - p.start) (drop p.start b)) where
      data_length : length d ≡ p.end - p.start
      data_length =
          let i = within in
          rw hd (length-take-le (p.end - p.start) (drop p.start b) (simp length-drop (omega (arith, i.0, i.1))))

      module _ {v : Verdict} {l : List ℕ} {c : Option ℕ} {o : Result Span Refusal} (h : SpanShows d v l c o) where
        pub start_short : {s : Span} → o ≡ Ok s → p.start + s.start ≤ 16777216
        start_short g = let i = within in omega (arith, (h.shown g).inside, data_length, i.0, i.1, all_short)

        pub moved_shows : {s m : Span} → o ≡ Ok s → m ≡ record { start = p.start + s.start; points = s.points; len = s.len } → SpanShows b v l c (Ok m)
        unfolding verdict_of
        moved_shows {s} g q =
            let i = within in
            let f = h.shown g in
            let j : s.start + s.len ≤ p.end - p.start = rw data_length at f.inside in
            let y : take s.len (drop s.start d) ≡ l = f.bytes in
            let a : v ≡ Accepted = sym h.verdict ∙ ap verdict_of g in
            rw (q, a)
            (span_shows b
            (record {
              inside = omega (arith, i.0, i.1);
              bytes = sym (part_part b p.start (p.end - p.start) s.start s.len j) ∙ rw (← hd) y;
              points = f.points;
            }))

        refused_shows : {r : Refusal} {q : Result Span Refusal} → o ≡ Err r → q ≡ Err r → SpanShows b v l c q
        unfolding verdict_of
        refused_shows g e =
            let n = h.refused g in
            rw (n.0, n.1) (nothing_shows b e (sym h.verdict ∙ ap verdict_of g))

      whole : d ≡ psv_of b
      whole = hd ∙ data_is

      -- a view of the data, and of the container
      module _ (v : View) {o : Result Span Refusal}
          (h : SpanShows d (queried (opened k d) (answered k d (question_of v))) (bytes_of (answered k d (question_of v))) (points_of v (answered k d)) o) where
        of_view : {q : Result Span Refusal}
            → SpanShows b (queried (opened k d) (answered k d (question_of v))) (bytes_of (answered k d (question_of v))) (points_of v (answered k d)) q
            → SpanShows b (queried (container_judged k b) (container_answered k b (question_of v))) (bytes_of (container_answered k b (question_of v)))
            (points_of v (container_answered k b)) q
        of_view g =
            let j = opens_so whole in
            let a = answers_so whole in
            rw (← j, ← a) g

        pub view_shows : {s m : Span} → o ≡ Ok s → m ≡ record { start = p.start + s.start; points = s.points; len = s.len }
            → SpanShows b (queried (container_judged k b) (container_answered k b (question_of v))) (bytes_of (container_answered k b (question_of v)))
            (points_of v (container_answered k b)) (Ok m)
        view_shows g e = of_view (moved_shows h g e)

        pub view_refused : {r : Refusal} {q : Result Span Refusal} → o ≡ Err r → q ≡ Err r
            → SpanShows b (queried (container_judged k b) (container_answered k b (question_of v))) (bytes_of (container_answered k b (question_of v)))
            (points_of v (container_answered k b)) q
        view_refused g e = of_view (refused_shows h g e)

      -- a section of the data, and of the container
      module _ (t : handed.Section) {o : Result Span Refusal}
          (h : SpanShows d (opened k d) (bytes_beside (opened k d) (handed.handed (edition_read_of k d) d t)) None o) where
        of_section : {q : Result Span Refusal} → SpanShows b (opened k d) (bytes_beside (opened k d) (handed.handed (edition_read_of k d) d t)) None q
            → SpanShows b (container_judged k b) (bytes_beside (container_judged k b) (handed.handed (edition_read_of k (psv_of b)) (psv_of b) t)) None q
        of_section g = let j = opens_so whole in rw (← j, ← whole) g

        pub section_shows : {s m : Span} → o ≡ Ok s → m ≡ record { start = p.start + s.start; points = s.points; len = s.len }
            → SpanShows b (container_judged k b) (bytes_beside (container_judged k b) (handed.handed (edition_read_of k (psv_of b)) (psv_of b) t)) None (Ok m)
        section_shows g e = of_section (moved_shows h g e)

        pub section_refused : {r : Refusal} {q : Result Span Refusal} → o ≡ Err r → q ≡ Err r
            → SpanShows b (container_judged k b) (bytes_beside (container_judged k b) (handed.handed (edition_read_of k (psv_of b)) (psv_of b) t)) None q
        section_refused g e = of_section (refused_shows h g e)

pub no_edition_part : (k : ℕ) (b : List ℕ) (x : ℕ) → 3 < k → container_part k b x ≡ Err (record { number = 25; place = 0 })
unfolding container_occurrence container_judged before_psv check ◌then◌
no_edition_part k b x h = simp (lt-leb _ _ h)

-- ---- what an opening shows
module _ (k : ℕ) (b : List ℕ) {w : Result ContainerOpening Refusal} (hw : w ≡ container_opening_of k b) where
  pub opening_verdict : verdict_of w ≡ container_judged k b
  unfolding container_opening_of
  opening_verdict = verdict_is _ _ hw

  pub opening_refused : {r : Refusal} → w ≡ Err r → container_judged k b ≡ Refused r.number r.place
  unfolding container_opening_of
  opening_refused e = refused_by _ _ hw e

  module _ {o : ContainerOpening} (e : w ≡ Ok o) where
    pub opening_accepted : container_judged k b ≡ Accepted
    unfolding container_opening_of
    opening_accepted = accepted_by _ _ hw e

    shown_so : o ≡ record { parts = count_of b; file_edition = file_edition_of (u32_at (psv_of b) 0); edition_read = edition_read_of k (psv_of b) }
    unfolding container_opening_of
    shown_so = value_by _ _ hw e

    pub opening_parts : o.parts ≡ count_of b
    opening_parts = ap (λ (q : ContainerOpening). q.parts) shown_so

    pub opening_edition : o.file_edition ≡ file_edition_of (u32_at (psv_of b) 0)
    opening_edition = ap (λ (q : ContainerOpening). q.file_edition) shown_so

-- ---- what an opening with places shows
module _ (k : ℕ) (b : List ℕ) {w : Result ContainerPlaces Refusal} (hw : w ≡ container_places_of k b) where
  pub placed_refused : {r : Refusal} → w ≡ Err r → container_judged k b ≡ Refused r.number r.place
  unfolding container_places_of
  placed_refused e = refused_by _ _ hw e

  pub placed_info : {o : ContainerPlaces} → w ≡ Ok o → info_by o.places b ≡ info_answer_of (container_judged k b) (container_answered k b)
  unfolding container_places_of
  placed_info e =
      let p = ap (λ (q : ContainerPlaces). q.places) (value_by _ _ hw e) in
      rw p (info_fresh k b (accepted_by _ _ hw e))

  pub no_placed_info : {r : Refusal} → w ≡ Err r → Err r ≡ info_answer_of (container_judged k b) (container_answered k b)
  unfolding info_answer_of
  no_placed_info e = refuses _ _ refl (sym (placed_refused e))
