-- The second report by a record of places: the steps of its code, by any record, of any bytes; and that by the record of an opening of the bytes it is the
-- report on them.
-- Assumes nothing.
use Rattle.std.specs.Prelude.{Option, Result, Ok, Err, IsErr, IsErrAnd}
use Prim.Native.Nat.{ℕ, ◌+◌, ◌-◌, ◌*◌, ◌/◌, ◌≤◌}
use mathlib.Core.Path.{◌≡◌, refl, sym, ◌∙◌, ap}
use mathlib.Core.Bool.{true}
use mathlib.Core.List.{List}
use native.Mathlib.Omega.{arith}
use native.Mathlib.Nat.{mul-le-mul_right, mul-div-le, le_trans}
use lib.ListN.{length, take, drop}
use Rattle.wire.specs.Verdict.{◌then◌, check, under, verdict_of, Accepted, Refused}
use Rattle.wire.specs.declared.Refusal.{Refusal}
use Rattle.wire.proofs.Verdicts.{last_then, stop_then, pass_then, refuses, accepts, refused_by, accepted_by, value_by}
use Rattle.part_table_layout.specs.Lookup.{find}
use Rattle.part_table_layout.specs.declared.Part.{Part}
use Rattle.psv0_layout.specs.Answers.{field_of, info_of, info_answer_of, bytes_of}
use Rattle.psv0_layout.specs.Handed.{Section, string_table, element_records, handed}
use Rattle.psv0_layout.specs.Layout.{edition_read_of}
use Rattle.psv0_layout.specs.Shown.{Value, unset, number, view, Question, input_elements, output_elements, patch_elements}
use Rattle.psv0_layout.specs.declared.RuntimeInfo.{RuntimeInfo}
use Rattle.psv0_layout.specs.declared.Section.TheVariants.{StringTable, ElementRecords}
use Rattle.psv0_layout.specs.declared.Span.{Span}
use Rattle.psv0_layout.proofs.Spans.{passed_err}
use Rattle.places_layout.specs.Answers.{shown_by, info_by, SectionBy}
use Rattle.places_layout.specs.Handed.{handed_by}
use Rattle.places_layout.specs.Read.{Answer}
use Rattle.places_layout.specs.declared.SectionPlaces.{SectionPlaces}
use Rattle.container_layout.specs.Container.{is_there, psv_of, container_judged, container_answered, container_part}
use Rattle.container_layout.specs.Placed.{container_places}
use Rattle.container_layout.proofs.Placed.{answers_fresh, hands_fresh, info_fresh}
use Rattle.container_layout.proofs.Parts.{opens, part_fits}
use Rattle.container_layout.proofs.Reports.{reported_open, part_passed, data_reported, data_there}
use Rattle.signature_layout.specs.Signature.{signature_judged, signature_of}
use Rattle.signature_report_layout.specs.Listed.{count_in, listed, list_of}
use Rattle.signature_report_layout.specs.Placed.{needed_by, names_by, difference_by}
use Rattle.signature_report_layout.specs.Reported.{part_name, signature_data, signature_reported, count_shown, list_size, list_before, psv_name, first_difference, difference_if, difference_of}
use Rattle.signature_report_layout.specs.declared.SignaturePart.{SignaturePart}
use Rattle.signature_report_layout.proofs.Agreed.{difference_if_lem}
use Rattle.signature_report_layout.proofs.Names.{list_within, names_listed}

-- ---- the list of the part s by the counts i, m and p: its n elements stand in the records c after f others, w bytes apart
module _ (s : SignaturePart) (i m p f n w : ℕ) (c : List ℕ) (ef : f ≡ list_before s i m) (en : n ≡ list_size s i m p) (ew : w ≡ length c / (i + m + p)) where
  within : f + n ≤ i + m + p
  within = rw (ef, en) (list_within s i m p)

  pub list_short : i + m + p ≤ 12884901888 → f + n ≤ 12884901888
  list_short h = omega (arith, within)

  pub list_inside : (f + n) * w ≤ length c
  list_inside = le_trans (mul-le-mul_right w within) (rw ew (mul-div-le (length c) (i + m + p)))

  pub list_is : (d t : List ℕ) {x : Option ℕ} {i' m' p' : ℕ} → i ≡ i' → m ≡ m' → p ≡ p' → x ≡ first_difference d (listed t c f n w)
      → x ≡ first_difference d (list_of s i' m' p' t c)
  unfolding list_of
  list_is d t ei em ep ex = ex ∙ rw (ew, ef, en, ei, em, ep)

-- ---- what it needs, in turn: the runtime info a, the string table x and the element records y
field_count : (x : Value) → count_in (field_of x) ≡ count_shown x
field_count unset = refl
field_count (number n) = refl
field_count (view l) = refl

-- the bytes of a stretch, as a slice from its start to its end
slice_is : (b : List ℕ) (x : Span) → take (x.start + x.len - x.start) (drop x.start b) ≡ take x.len (drop x.start b)
slice_is b x = let z : x.start + x.len - x.start ≡ x.len = omega arith in rw z

module _ (p : SectionPlaces) (b d : List ℕ) (s : SignaturePart) where
  module _ {w : Result (Option ℕ) Refusal} {e : Refusal} (hw : IsErr w × IsErrAnd w (λ (u : Refusal). u ≡ e)) where
    refused_needed : Refused e.number e.place ≡ needed_by p b → w ≡ difference_if (needed_by p b) d (names_by p b s)
    refused_needed h = refuses _ _ (passed_err _ hw) h

    pub no_record : {a : Result RuntimeInfo Refusal} → a ≡ info_by p b → a ≡ Err e → w ≡ difference_if (needed_by p b) d (names_by p b s)
    no_record ha h = refused_needed (unfold needed_by verdict_of in stop_then _ _ _ _ (ap verdict_of (sym ha ∙ h)))

  module _ {a : Result RuntimeInfo Refusal} (ha : a ≡ info_by p b) {i : RuntimeInfo} (ea : a ≡ Ok i) where
    record_there : verdict_of (info_by p b) ≡ Accepted
    unfolding verdict_of
    record_there = ap verdict_of (sym ha ∙ ea)

    info_is : i ≡ info_of (shown_by p b)
    unfolding info_by
    info_is = value_by _ _ ha ea

    module _ {x : Result Span Refusal} (hx : SectionBy p b StringTable x) where
      pub no_table : {w : Result (Option ℕ) Refusal} {e : Refusal} → IsErr w × IsErrAnd w (λ (u : Refusal). u ≡ e) → x ≡ Err e
          → w ≡ difference_if (needed_by p b) d (names_by p b s)
      no_table hw h = refused_needed hw (unfold needed_by verdict_of in pass_then _ _ _ record_there (stop_then _ _ _ _ (sym hx.verdict ∙ ap verdict_of h)))

      module _ {t : Span} (ex : x ≡ Ok t) where
        table_there : (handed_by p b string_table).verdict ≡ Accepted
        unfolding verdict_of
        table_there = sym hx.verdict ∙ ap verdict_of ex

        module _ {y : Result Span Refusal} (hy : SectionBy p b ElementRecords y) where
          pub no_records : {w : Result (Option ℕ) Refusal} {e : Refusal} → IsErr w × IsErrAnd w (λ (u : Refusal). u ≡ e) → y ≡ Err e
              → w ≡ difference_if (needed_by p b) d (names_by p b s)
          no_records hw h =
              refused_needed hw (unfold needed_by verdict_of in pass_then _ _ _ record_there (pass_then _ _ _ table_there (sym (ap verdict_of h) ∙ hy.verdict)))

          pub all_there : {c : Span} → y ≡ Ok c → {r : Option ℕ}
              → r ≡ first_difference d (list_of s (count_in i.input_elements) (count_in i.output_elements) (count_in i.patch_elements)
              (take (t.start + t.len - t.start) (drop t.start b)) (take (c.start + c.len - c.start) (drop c.start b)))
              → Ok r ≡ difference_if (needed_by p b) d (names_by p b s)
          unfolding names_by info_of
          all_there {c} ey {r} er =
              let v : Accepted ≡ needed_by p b =
              unfold needed_by verdict_of in pass_then _ _ _ record_there (pass_then _ _ _ table_there (sym (ap verdict_of ey) ∙ hy.verdict)) in
              let n : count_in i.input_elements ≡ count_shown (shown_by p b input_elements) =
              ap (λ (z : RuntimeInfo). count_in z.input_elements) info_is ∙ field_count (shown_by p b input_elements) in
              let m : count_in i.output_elements ≡ count_shown (shown_by p b output_elements) =
              ap (λ (z : RuntimeInfo). count_in z.output_elements) info_is ∙ field_count (shown_by p b output_elements) in
              let l : count_in i.patch_elements ≡ count_shown (shown_by p b patch_elements) =
              ap (λ (z : RuntimeInfo). count_in z.patch_elements) info_is ∙ field_count (shown_by p b patch_elements) in
              let f = slice_is b t ∙ (hx.shown ex).bytes in
              let g = slice_is b c ∙ (hy.shown ey).bytes in
              let q : r ≡ first_difference d (names_by p b s) = er ∙ (λ j. first_difference d (list_of s (n j) (m j) (l j) (f j) (g j))) in
              ap Ok q ∙ accepts _ _ v

-- ---- and before that the data: g is what was read of them
module _ (p : SectionPlaces) (b d : List ℕ) (s : SignaturePart) {g : Result ℕ Refusal} (hg : g ≡ signature_of d) where
  pub data_refused : {w : Result (Option ℕ) Refusal} {e : Refusal} → IsErr w × IsErrAnd w (λ (u : Refusal). u ≡ e) → g ≡ Err e
      → w ≡ difference_by p b s d
  unfolding difference_by signature_of
  data_refused {e = e} hw h = refuses _ _ (passed_err _ hw) (stop_then _ _ _ _ (refused_by _ _ hg h))

  module _ {n : ℕ} (e : g ≡ Ok n) where
    pub data_judged_lem : signature_judged d ≡ Accepted
    unfolding signature_of
    data_judged_lem = accepted_by _ _ hg e

    pub data_passed : {x : Result (Option ℕ) Refusal} → x ≡ difference_if (needed_by p b) d (names_by p b s) → x ≡ difference_by p b s d
    unfolding difference_by ◌then◌
    data_passed q = q ∙ rw data_judged_lem

-- ---- "For the bytes it was made from, each answer equals the fresh one"
module _ (k : ℕ) (b : List ℕ) (o : container_judged k b ≡ Accepted) where
  needed_fresh : needed_by (container_places k b) b ≡ Accepted
  unfolding needed_by info_answer_of ◌then◌ verdict_of under
  needed_fresh = rw (info_fresh k b o, hands_fresh k b o string_table, hands_fresh k b o element_records, o)

  shown_fresh : (q : Question) → shown_by (container_places k b) b q ≡ container_answered k b q
  unfolding shown_by
  shown_fresh q = ap (λ (a : Answer). a.value) (answers_fresh k b o q)

  handed_fresh : (t : Section) → (handed_by (container_places k b) b t).value ≡ view (handed (edition_read_of k (psv_of b)) (psv_of b) t)
  handed_fresh t = ap (λ (a : Answer). a.value) (hands_fresh k b o t)

  names_fresh : (s : SignaturePart) (i : ℕ) → names_by (container_places k b) b s i ≡ psv_name s (container_answered k b) i
  unfolding names_by
  names_fresh s i =
      (λ j. list_of s (count_shown (shown_fresh input_elements j)) (count_shown (shown_fresh output_elements j)) (count_shown (shown_fresh patch_elements j))
      (bytes_of (handed_fresh string_table j)) (bytes_of (handed_fresh element_records j)) i)
      ∙ names_listed k b o s i

  fresh_by : (s : SignaturePart) → signature_judged (signature_data s b) ≡ signature_reported s k b
      → difference_by (container_places k b) b s (signature_data s b) ≡ difference_of s k b
  unfolding difference_by difference_of
  fresh_by s j =
      let needed : (signature_judged (signature_data s b) then needed_by (container_places k b) b) ≡ signature_reported s k b =
      rw needed_fresh (sym (last_then (signature_judged (signature_data s b))) ∙ j) in
      rw needed (difference_if_lem (signature_reported s k b) refl (λ e. names_fresh s))

  -- of a part that is there
  pub difference_fresh : (s : SignaturePart) → is_there (find b (part_name s)) ≡ true
      → difference_by (container_places k b) b s (signature_data s b) ≡ difference_of s k b
  unfolding signature_reported
  difference_fresh s t =
      let there : signature_judged (signature_data s b) ≡ (check (is_there (find b (part_name s))) 26 0 then signature_judged (signature_data s b)) =
      unfold ◌then◌ check in rw t in
      fresh_by s (there ∙ sym (reported_open signature_judged (part_name s) k b o))

-- r is what the query for the part answers, q the part, p the record of the opening
module _ (s : SignaturePart) (k : ℕ) (b : List ℕ) {r : Result Part Refusal} (hr : r ≡ container_part k b (part_name s)) where
  pub part_no_difference : {w : Result (Option ℕ) Refusal} {e : Refusal} → IsErr w × IsErrAnd w (λ (u : Refusal). u ≡ e) → r ≡ Err e
      → w ≡ difference_of s k b
  unfolding difference_of signature_reported
  part_no_difference hw h = part_passed signature_judged k b (part_name s) hr _ hw h

  module _ {q : Part} (h : r ≡ Ok q) where
    pub part_inside : q.offset + 8 + q.size ≤ length b
    part_inside = part_fits k b (part_name s) 0 hr h

    pub part_opens : container_judged k b ≡ Accepted
    part_opens = opens k b (part_name s) 0 hr h

    pub part_difference : {p : SectionPlaces} {x : Result (Option ℕ) Refusal} → p ≡ container_places k b
        → x ≡ difference_by p b s (take (q.offset + 8 + q.size - (q.offset + 8)) (drop (q.offset + 8) b)) → x ≡ difference_of s k b
    part_difference e z =
        let j : signature_judged (signature_data s b) ≡ signature_reported s k b = unfold signature_reported in data_reported signature_judged k b (part_name s) hr h in
        z ∙ rw (e, data_there k b (part_name s) hr h) (fresh_by k b part_opens s j)
