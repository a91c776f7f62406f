-- What the code's checks tell, and what it answers.
-- Assumes nothing.
use Rattle.std.specs.Prelude.{Some, Result, Ok, Err, IsErr, IsErrAnd}
use Prim.Native.Nat.{ℕ, ◌+◌, ◌-◌, ◌≤◌, ◌<◌}
use mathlib.Core.Path.{◌≡◌, refl, sym, ◌∙◌, ap}
use mathlib.Core.List.{List, ◌++◌}
use native.Mathlib.Omega.{arith}
use native.Mathlib.Nat.{sub-zero}
use lib.Dec.{leb}
use lib.ListN.{length, take, drop}
use lib.Seq.{length-take-le}
use borrow.Author.Tests.{leb-true, le-leb, lt-leb}
use Rattle.wire.specs.Verdict.{◌then◌, check, under, Verdict, Accepted, Refused}
use Rattle.wire.specs.declared.Refusal.{Refusal}
use Rattle.wire.proofs.Verdicts.{stop_then, pass_then, refuses, accepts, refused_by, value_by, passed_on}
use Rattle.part_table_layout.specs.Lookup.{find, part_at}
use Rattle.part_table_layout.specs.Table.{count_of, offset_at, size_at, table_judged}
use Rattle.part_table_layout.specs.declared.Part.{Part}
use Rattle.part_table_layout.proofs.Accepted.{part_inside}
use Rattle.part_table_layout.proofs.Lookups.{find_told, first_occurrence}
use Rattle.psv0_layout.specs.Judged.{opened}
use Rattle.psv0_layout.specs.Layout.{edition_read_of}
use Rattle.psv0_layout.proofs.Editions.{newer}
use Rattle.places_layout.specs.Placed.{moved_by, places_at, opened_places}
use Rattle.places_layout.specs.declared.PlacesAnswer.{PlacesAnswer}
use Rattle.places_layout.specs.declared.SectionPlaces.{SectionPlaces}
use Rattle.places_layout.proofs.Moving.{moved_places}
use Rattle.container_layout.specs.Container.{psv0, container_judged, container_occurrence, container_part}
use Rattle.container_layout.specs.Placed.{container_places}
use Rattle.container_layout.proofs.Containers.{before_told, opened_told}
use Rattle.container_layout.proofs.Parts.{opens as part_opens}
use Rattle.replacing_layout.specs.Answer.{replacement_of, output_of, Replacing, Replaceable}
use Rattle.replacing_layout.specs.Judged.{new_judged, replacing_judged}
use Rattle.replacing_layout.specs.Replaced.{replaced_at, replaced}
use Rattle.replacing_layout.specs.declared.Replacement.{Replacement}
use Rattle.replacing_layout.proofs.Containers.{there, replaces, places_new}
use Rattle.replacing_layout.proofs.Places.{replaced_length}
use Rattle.replacing_layout.proofs.Replacing.{Passed, passed_told}
use Rattle.replacing_layout.proofs.Writing.{replaceable}

-- a refusal of v's number and place, passed on by `?`, is what v gives
pub refused_as : (v : Verdict) {B : Type 0} (y : B) {q : Refusal} → Refused q.number q.place ≡ v → {r : Result B Refusal} → IsErr r × IsErrAnd r (λ (s : Refusal). s ≡ q) → r ≡ under v y
refused_as v y {q} h f =
    let e : ◌≡◌ {A = Result (Unit {0}) Refusal} (Err q) (Err q) = refl in
    passed_on _ _ (refuses v (tt {0}) e h) y f e

-- ---- the PSV0 part p of a container b that opens
pub record PsvPart (b : List ℕ) (p : Part) : Type 0 where
  pub table : table_judged b ≡ Accepted
  pub found : find b psv0 ≡ Some p.number
  pub listed : p.number < count_of b
  pub placed : p.offset ≡ offset_at b p.number
  pub sized : p.size ≡ size_at b p.number

module _ (k : ℕ) (b : List ℕ) where
  psv_found : (i : ℕ) → container_judged k b ≡ Accepted → find b psv0 ≡ Some i → container_part k b psv0 ≡ part_at b (Some i)
  unfolding container_occurrence
  psv_found i a e = rw (a, first_occurrence b psv0, e)

  psv_refused : {n q : ℕ} → container_judged k b ≡ Refused n q → container_part k b psv0 ≡ Err (record { number = n; place = q })
  unfolding container_occurrence
  psv_refused e = rw e

  -- where the query for it refuses, the opening does
  pub not_opened : (new : List ℕ) (room : ℕ) {q : Refusal} → container_part k b psv0 ≡ Err q → Refused q.number q.place ≡ replacing_judged k b new room
  unfolding replacing_judged
  not_opened new room {q} h = stop_then (container_judged k b) _ _ _ (go (container_judged k b) refl)
    where
      go : (v : Verdict) → container_judged k b ≡ v → container_judged k b ≡ Refused q.number q.place
      go Accepted a =
          let (i, e) = there (find b psv0) (before_told k b (opened_told k b a).0).validation in
          let z : ◌≡◌ {A = Result Part Refusal} (part_at b (Some i)) (Err q) = sym (psv_found i a e) ∙ h in
          cc
      go (Refused n p) a =
          let z : ◌≡◌ {A = Result Part Refusal} (Err (record { number = n; place = p })) (Err q) = sym (psv_refused a) ∙ h in
          let y : ◌≡◌ {A = Refusal} (record { number = n; place = p }) q = cc in
          a ∙ ap (λ (r : Refusal). Refused r.number r.place) y

  module _ {p : Part} (h : container_part k b psv0 ≡ Ok p) where
    abbrev opens : container_judged k b ≡ Accepted
    opens = part_opens k b psv0 0 refl h

    pub psv_part : PsvPart b p
    psv_part =
        let f = before_told k b (opened_told k b opens).0 in
        let (i, e) = there (find b psv0) f.validation in
        let z : ◌≡◌ {A = Result Part Refusal} (Ok p) (part_at b (Some i)) = sym h ∙ psv_found i opens e in
        let q : p ≡ record { number = i; offset = offset_at b i; size = size_at b i } = cc in
        rw q
        (record {
          table = f.table;
          found = e;
          listed = (find_told b psv0 i e).listed;
          placed = refl;
          sized = refl;
        })

    -- how long the result is
    pub result_length : (new : List ℕ) → length (replaced b new) ≡ length b - p.size + length new
    unfolding replaced
    result_length new =
        let q = psv_part in
        let s = q.sized in
        let n = replaced_length b p.number new q.table q.listed in
        let i = part_inside b q.table p.number q.listed in
        rw (q.found, n) (omega arith)

    -- ---- the checks in order, where room is the output's length
    module _ (new : List ℕ) (room : ℕ) where
      rest : Verdict
      rest = check (leb (length (replaced b new)) 16777216) 2 0 then check (leb (length (replaced b new)) room) 28 0

      past_opening : {v : Verdict} → v ≡ (new_judged new then rest) → v ≡ replacing_judged k b new room
      unfolding replacing_judged rest
      past_opening q = pass_then (container_judged k b) _ _ opens q

      pub not_plain : {n q : ℕ} → new_judged new ≡ Refused n q → Refused n q ≡ replacing_judged k b new room
      not_plain e = past_opening (stop_then (new_judged new) _ _ _ e)

      module _ (plain : new_judged new ≡ Accepted) {len : ℕ} (hl : len ≡ length b - p.size + length new) where
        pub long : len ≡ length (replaced b new)
        long = hl ∙ sym (result_length new)

        past_new : {w : Verdict} → w ≡ rest → w ≡ replacing_judged k b new room
        past_new q = past_opening (pass_then (new_judged new) _ _ plain q)

        pub too_long : 16777216 < len → Refused 2 0 ≡ replacing_judged k b new room
        unfolding rest check ◌then◌
        too_long l = past_new (let e = long in rw (lt-leb (length (replaced b new)) 16777216 (omega arith)))

        module _ (short : len ≤ 16777216) where
          pub no_room : room < len → Refused 28 0 ≡ replacing_judged k b new room
          unfolding rest check ◌then◌
          no_room l =
              past_new
              (let e = long in rw (le-leb (length (replaced b new)) 16777216 (omega arith), lt-leb (length (replaced b new)) room (omega arith)))

          pub all_pass : len ≤ room → Accepted ≡ replacing_judged k b new room
          unfolding rest check ◌then◌
          all_pass l =
              past_new
              (let e = long in rw (le-leb (length (replaced b new)) 16777216 (omega arith), le-leb (length (replaced b new)) room (omega arith)))

-- ---- the answer, where o is what the output held
module _ (k : ℕ) (b new o : List ℕ) where
  pub refused_well : {q : Refusal} → Refused q.number q.place ≡ replacing_judged k b new (length o) → {r : Result Replacement Refusal} → IsErr r × IsErrAnd r (λ (s : Refusal). s ≡ q)
      → Replacing k b new o r o
  unfolding replacement_of output_of
  refused_well h f = record { answered = refused_as _ _ h f; left = rw (← h) }

  module _ {p : Part} (h : container_part k b psv0 ≡ Ok p) (judged : replacing_judged k b new (length o) ≡ Accepted) where
    passed : Passed k b new (length o)
    passed = passed_told k b new (length o) judged

    psv : PsvPart b p
    psv = psv_part k b h

    result_long : length (replaced b new) ≡ length b - p.size + length new
    result_long = result_length k b h new

    pub may_replace : Replaceable b p.number p.offset p.size (length new)
    may_replace =
        let i = part_inside b psv.table p.number psv.listed in
        let z = psv.sized in
        let s = passed.short in
        let l = result_long in
        rw (psv.placed, z) (replaceable b p.number (length new) psv.table psv.listed (omega arith))

    -- the new data open at edition k too
    opens_too : opened k new ≡ Accepted
    opens_too = let j = leb-true k 3 passed.before.edition in (newer k 3 new j (omega arith)).opens passed.read

    pub never_refused : {s : Result PlacesAnswer Refusal} {q : Refusal} → s ≡ opened_places k new → s ≡ Err q → ⊥
    unfolding opened_places
    never_refused e f = let z = sym opens_too ∙ refused_by _ _ e f in cc

    module _ {len : ℕ} (hl : len ≡ length (replaced b new)) where
      pub fits : len ≤ length o
      fits = let f = passed.fits in omega arith

      pub room : length (take (len - 0) (drop 0 o)) ≡ length b + length new - p.size
      room = let m = may_replace.inside in let l = result_long in rw sub-zero (length-take-le _ o fits ∙ omega arith)

      laid : replaced b new ≡ replaced_at b p.number new
      unfolding replaced
      laid = rw psv.found

      -- the record of the new data alone, moved to where they stand
      module _ {s : Result PlacesAnswer Refusal} {a : PlacesAnswer} (e : s ≡ opened_places k new) (ok : s ≡ Ok a) where
        placed : moved_by (p.offset + 8) a.places ≡ container_places k (replaced b new)
        unfolding opened_places
        placed =
            let m = may_replace in
            let w = places_new b new (replaced b new) (replaces b new psv.table passed.before.validation passed.short) k in
            let i = m.inside in
            let v : a.places ≡ places_at 0 (edition_read_of k new) new = ap (λ (q : PlacesAnswer). q.places) (value_by _ _ e ok) in
            rw (v, w, psv.found, ← psv.placed) (moved_places k (p.offset + 8) new opens_too (omega arith))

        pub replaces_psv : {y : List ℕ} {m : SectionPlaces} → y ≡ replaced_at b p.number new → m ≡ moved_by (p.offset + 8) a.places
            → Replacing k b new o (Ok (record { len = len; places = m })) (take 0 o ++ (y ++ drop (len - 0) (drop 0 o)))
        unfolding replacement_of output_of
        replaces_psv {m = m} q g =
            record {
              answered = accepted_answer;
              left = rw (judged, q, sub-zero, hl, laid);
            }
          where
            accepted_answer : ◌≡◌ {A = Result Replacement Refusal} (Ok (record { len = len; places = m })) (under (replacing_judged k b new (length o)) (record { len = length (replaced b new); places = container_places k (replaced b new) }))
            accepted_answer = rw (hl, g, placed) (accepts _ _ (sym judged))
