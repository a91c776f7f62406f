-- What the reports of two editions have in common, and what a widening keeps: of whichever signature part.
-- Assumes nothing.
use Rattle.std.specs.Prelude.{Option, Some, None, Result, Ok, Err}
use Prim.Native.Nat.{ℕ, ◌+◌, ◌≤◌}
use mathlib.Core.Path.{◌≡◌, refl, sym, ◌∙◌, ap}
use mathlib.Core.Bool.{true}
use mathlib.Core.List.{List}
use native.Mathlib.Omega.{arith}
use lib.ListN.{length, take, drop}
use borrow.Author.Tests.{le-leb, ltb-true}
use Rattle.constants.specs.Edition.{size_of}
use Rattle.wire.specs.Number.{u32_at}
use Rattle.wire.specs.Verdict.{under, verdict_of, Verdict, Accepted, Refused}
use Rattle.wire.specs.declared.Refusal.{Refusal}
use Rattle.wire.proofs.Verdicts.{then_accepted, check_accepted, verdict_is, value_by}
use Rattle.utf8_layout.specs.Sequence.{well_formed, code_points}
use Rattle.psv0_layout.specs.Layout.{edition_read_of}
use Rattle.psv0_layout.specs.declared.Span.{Span}
use Rattle.psv0_layout.specs.Shown.{Value, Question, element_string, input_elements, output_elements, patch_elements, needs, shown_at}
use Rattle.container_layout.specs.Container.{psv0, psv_of, container_judged, container_answered}
use Rattle.container_layout.specs.Widened.{WiderContainer}
use Rattle.container_layout.proofs.Demand3.{editions_agree, widening_kept}
use Rattle.container_layout.proofs.Reports.{reports_agree, data_kept, report_kept, reported_judged, reported_inside, reported_part}
use Rattle.signature_layout.specs.Signature.{count_of, name_offset_of, name_judged, name_of, signature_judged, element_shown, name_view, view_of, bytes_of}
use Rattle.signature_layout.specs.declared.NameSpan.{NameSpan}
use Rattle.signature_layout.specs.declared.SignatureAnswer.{SignatureAnswer}
use Rattle.signature_layout.specs.declared.SignatureElement.{SignatureElement}
use Rattle.signature_layout.proofs.Signatures.{name_accepted, name_shown, name_points}
use Rattle.signature_report_layout.specs.Reported.{part_name, signature_data, signature_start, moved_name, moved, signature_reported, report_shown, signature_report_of, element_reported, element_report_of, psv_name, difference_if, difference_of}
use Rattle.signature_report_layout.specs.declared.SignaturePart.{SignaturePart}
use Rattle.signature_report_layout.specs.declared.SignatureReport.{SignatureReport}
use Rattle.signature_report_layout.specs.declared.SignaturePart.TheVariants.{Input, Output, Patch}

-- ---- two editions, i the older and j the newer. "Where the newer of two editions opens the bytes, the first report is the same at both,
-- refusal or values, and so is the second where both read edition 1 or more."
pub record SignaturesAgree (s : SignaturePart) (i j : ℕ) (b : List ℕ) : Type 0 where
  pub refuses : (n p : ℕ) → container_judged i b ≡ Refused n p → signature_reported s j b ≡ Refused n p
  pub accepts : signature_reported s j b ≡ Accepted → signature_reported s i b ≡ Accepted
  pub report : container_judged j b ≡ Accepted → signature_report_of s j b ≡ signature_report_of s i b
  pub element : container_judged j b ≡ Accepted → (m : ℕ) → element_report_of s j b m ≡ element_report_of s i b m
  pub difference : container_judged j b ≡ Accepted → 1 ≤ edition_read_of i (psv_of b) → 1 ≤ edition_read_of j (psv_of b)
      → difference_of s j b ≡ difference_of s i b

-- what is shown from edition 1 on is the same at any two editions read that are 1 or more
module _ (i j : ℕ) (b : List ℕ) (oi : container_judged i b ≡ Accepted) (oj : container_judged j b ≡ Accepted)
    (hi : 1 ≤ edition_read_of i (psv_of b)) (hj : 1 ≤ edition_read_of j (psv_of b)) where
  shown_same : (q : Question) → needs q ≡ 1 → container_answered j b q ≡ container_answered i b q
  unfolding container_answered shown_at
  shown_same q e = rw (oi, oj, e, le-leb 1 (edition_read_of i (psv_of b)) hi, le-leb 1 (edition_read_of j (psv_of b)) hj)

-- two openings that show the same of the lists' lengths and of the elements' strings have the same names
module _ (a a' : Question → Value) (same : (q : Question) → needs q ≡ 1 → a' q ≡ a q) where
  names_same : (s : SignaturePart) (n : ℕ) → psv_name s a' n ≡ psv_name s a n
  unfolding psv_name
  names_same s n = rw (same input_elements refl, same output_elements refl, same patch_elements refl, same (element_string _) refl)

-- two second reports under one verdict are the same where the data are the same and, where they accept, the names
pub difference_if_lem : (v : Verdict) {d d' : List ℕ} {f f' : ℕ → Value} → d' ≡ d → (v ≡ Accepted → (n : ℕ) → f' n ≡ f n)
    → difference_if v d' f' ≡ difference_if v d f
unfolding under
difference_if_lem (Refused n p) e g = refl
difference_if_lem Accepted {f = f} {f' = f'} e g =
    let names : f' ≡ f = λ i n. g refl n i in
    rw (e, names)

module _ (s : SignaturePart) (i j : ℕ) (b : List ℕ) (h : i ≤ j) (l : j ≤ 3) where
  pub signatures_agree : SignaturesAgree s i j b
  unfolding signature_report_of element_report_of element_reported difference_of
  signatures_agree =
      let a = reports_agree signature_judged (part_name s) i j b h l in
      let same : container_judged j b ≡ Accepted → signature_reported s j b ≡ signature_reported s i b = unfold signature_reported in a.same in
      record {
        refuses = λ n p r. unfold signature_reported in a.refuses n p r;
        accepts = λ r. unfold signature_reported in a.accepts r;
        report = λ o. rw (same o);
        element = λ o m. rw (same o);
        difference = λ o hi hj.
            rw (same o)
            (difference_if_lem (signature_reported s i b) refl
            (λ v. names_same _ _ (shown_same i j b ((editions_agree i j b h l).opens o) o hi hj) s));
      }

-- ---- the name of an answer, unset beside a refusal, and what it tells of the element but for that
abbrev pub name_told : Result SignatureAnswer Refusal → Option NameSpan
name_told (Ok a) = a.name
name_told (Err r) = None

-- the code points of a view, unset beside a refusal
abbrev pub points_told : Result Span Refusal → Option ℕ
points_told (Ok x) = x.points
points_told (Err r) = None

abbrev pub element_told : Result SignatureAnswer Refusal → Result SignatureElement Refusal
element_told (Ok a) = Ok a.element
element_told (Err r) = Err r

-- ---- element m of the part's data, whose name the report moves
abbrev in_part : SignaturePart → ℕ → List ℕ → ℕ → Result SignatureAnswer Refusal
in_part s k b m = under (element_reported s k b m) (element_shown (signature_data s b) m)

moved_view : (v : Verdict) (a : SignatureAnswer) (n : ℕ)
    → (verdict_of (view_of (under v (moved n a))) ≡ verdict_of (view_of (under v a))) × (points_told (view_of (under v (moved n a))) ≡ points_told (view_of (under v a)))
unfolding under verdict_of
moved_view (Refused n p) a m = (refl, refl)
moved_view Accepted a m = go a.name
  where
    go : (x : Option NameSpan) → (verdict_of (name_view (moved_name m x)) ≡ verdict_of (name_view x)) × (points_told (name_view (moved_name m x)) ≡ points_told (name_view x))
    go (Some x) = (refl, refl)
    go None = (refl, refl)

moved_element : (v : Verdict) (a : SignatureAnswer) (n : ℕ) → element_told (under v (moved n a)) ≡ element_told (under v a)
unfolding under
moved_element (Refused n p) a m = refl
moved_element Accepted a m = refl

-- the name's stretch of the container is the name in the part's data
module _ (s : SignaturePart) (k : ℕ) (b : List ℕ) (m : ℕ) where
  name_judged_lem : element_reported s k b m ≡ Accepted → name_judged (signature_data s b) m ≡ Accepted
  unfolding element_reported signature_reported
  name_judged_lem a =
      let (r, c) = then_accepted _ _ a in
      let j = reported_judged signature_judged (part_name s) k b r in
      name_accepted (signature_data s b) j m (ltb-true m (count_of (signature_data s b)) (check_accepted _ 26 0 c))

  name_moved : element_reported s k b m ≡ Accepted → (x : Option NameSpan) → name_of (signature_data s b) (name_offset_of (signature_data s b) m) ≡ x
      → bytes_of b (moved_name (signature_start s b) x) ≡ bytes_of (signature_data s b) x
  unfolding element_reported signature_reported
  name_moved a None e = refl
  name_moved a (Some x) e =
      let r = (then_accepted _ _ a).0 in
      let l = (name_shown (signature_data s b) m (name_judged_lem a) e).0 in
      let i = reported_inside signature_judged (part_name s) k b r in
      rw (le-leb (x.start + x.len) (length (signature_data s b)) (omega arith), le-leb (signature_start s b + x.start + x.len) (length b) (omega arith))
      (reported_part signature_judged (part_name s) k b r x.start x.len (omega arith))

  pub name_in_container : bytes_of b (name_told (element_report_of s k b m)) ≡ bytes_of (signature_data s b) (name_told (in_part s k b m))
  unfolding element_report_of under
  name_in_container = go (element_reported s k b m) refl
    where
      go : (v : Verdict) → element_reported s k b m ≡ v
          → bytes_of b (name_told (under v (moved (signature_start s b) (element_shown (signature_data s b) m))))
          ≡ bytes_of (signature_data s b) (name_told (under v (element_shown (signature_data s b) m)))
      go Accepted a = name_moved a (name_of (signature_data s b) (name_offset_of (signature_data s b) m)) refl
      go (Refused n p) a = refl

  -- its bytes there are well formed, and the code points that are told are theirs
  pub points_in_container : {x : NameSpan} → name_told (element_report_of s k b m) ≡ Some x
      → (well_formed (bytes_of b (Some x)) ≡ true) × (x.points ≡ code_points (bytes_of b (Some x)))
  unfolding element_report_of under
  points_in_container {x} = go (element_reported s k b m) refl
    where
      told : element_reported s k b m ≡ Accepted → (y : Option NameSpan) → name_of (signature_data s b) (name_offset_of (signature_data s b) m) ≡ y
          → moved_name (signature_start s b) y ≡ Some x → (well_formed (bytes_of b (Some x)) ≡ true) × (x.points ≡ code_points (bytes_of b (Some x)))
      told a None e q = absurd (let z : ◌≡◌ {A = ℕ} 0 1 = cc in omega arith)
      told a (Some y) e q =
          let j = name_judged_lem a in
          let h = (name_shown (signature_data s b) m j e).0 in
          let z : bytes_of b (Some x) ≡ take y.len (drop y.start (signature_data s b)) =
          ap (λ (x : Option NameSpan). bytes_of b x) (sym q) ∙ name_moved a (Some y) e ∙ rw (le-leb (y.start + y.len) (length (signature_data s b)) (omega arith)) in
          let c : y.points ≡ x.points = cc in
          rw (z, ← c) (name_points (signature_data s b) m j e)

      go : (v : Verdict) → element_reported s k b m ≡ v → name_told (under v (moved (signature_start s b) (element_shown (signature_data s b) m))) ≡ Some x
          → (well_formed (bytes_of b (Some x)) ≡ true) × (x.points ≡ code_points (bytes_of b (Some x)))
      go Accepted a e = told a (name_of (signature_data s b) (name_offset_of (signature_data s b) m)) refl e
      go (Refused n p) a e = absurd (let z : ◌≡◌ {A = ℕ} 0 1 = cc in omega arith)

-- ---- "a widening shows the same of both reports": of reader k, the container b and its widening b', where the runtime record is at least that
-- edition's size. Names are compared by their bytes, their code points and whether they are set; where they lie in the file is not
pub record SignatureKept (s : SignaturePart) (k : ℕ) (b b' : List ℕ) : Type 0 where
  pub verdict : verdict_of (signature_report_of s k b') ≡ verdict_of (signature_report_of s k b)
  pub count : {r q : SignatureReport} → signature_report_of s k b ≡ Ok r → signature_report_of s k b' ≡ Ok q → q.count ≡ r.count
  pub element : (m : ℕ) → element_told (element_report_of s k b' m) ≡ element_told (element_report_of s k b m)
  pub name : (m : ℕ) → (verdict_of (view_of (element_report_of s k b' m)) ≡ verdict_of (view_of (element_report_of s k b m)))
      × (bytes_of b' (name_told (element_report_of s k b' m)) ≡ bytes_of b (name_told (element_report_of s k b m)))
      × (points_told (view_of (element_report_of s k b' m)) ≡ points_told (view_of (element_report_of s k b m)))
  pub difference : difference_of s k b' ≡ difference_of s k b

shown : (s : SignaturePart) (k : ℕ) (b : List ℕ) {r : SignatureReport} → signature_report_of s k b ≡ Ok r → r ≡ report_shown s b
unfolding signature_report_of
shown s k b e = value_by _ _ refl e

not_psv0 : (s : SignaturePart) → part_name s ≡ psv0 → ⊥
unfolding u32_at
not_psv0 Input e = omega arith
not_psv0 Output e = omega arith
not_psv0 Patch e = omega arith

module _ (s : SignaturePart) (k : ℕ) (b b' : List ℕ) (o : container_judged k b ≡ Accepted) (long : size_of k ≤ u32_at (psv_of b) 0) (w : WiderContainer k b b') where
  data_same : signature_data s b' ≡ signature_data s b
  data_same = data_kept k b b' w (part_name s) (not_psv0 s)

  verdict_same : signature_reported s k b' ≡ signature_reported s k b
  unfolding signature_reported
  verdict_same = report_kept k b b' w (part_name s) (not_psv0 s) signature_judged o long

  answers_same : (m : ℕ) → in_part s k b' m ≡ in_part s k b m
  unfolding element_reported
  answers_same m = rw (verdict_same, data_same)

  pub signature_kept : SignatureKept s k b b'
  unfolding signature_report_of element_report_of difference_of
  signature_kept =
      record {
        verdict = verdict_is _ _ refl ∙ verdict_same ∙ sym (verdict_is _ _ refl);
        count = λ e f. rw (shown s k b e, shown s k b' f, data_same);
        element = λ m.
            moved_element (element_reported s k b' m) (element_shown (signature_data s b') m) _
            ∙ ap (λ (a : Result SignatureAnswer Refusal). element_told a) (answers_same m)
            ∙ sym (moved_element (element_reported s k b m) (element_shown (signature_data s b) m) _);
        name = λ m. (
          (moved_view (element_reported s k b' m) (element_shown (signature_data s b') m) _).0
              ∙ ap (λ (a : Result SignatureAnswer Refusal). verdict_of (view_of a)) (answers_same m)
              ∙ sym (moved_view (element_reported s k b m) (element_shown (signature_data s b) m) _).0,
          name_in_container s k b' m ∙ rw (answers_same m, data_same) (sym (name_in_container s k b m)),
          (moved_view (element_reported s k b' m) (element_shown (signature_data s b') m) _).1
              ∙ ap (λ (a : Result SignatureAnswer Refusal). points_told (view_of a)) (answers_same m)
              ∙ sym (moved_view (element_reported s k b m) (element_shown (signature_data s b) m) _).1,
        );
        difference = rw verdict_same (difference_if_lem (signature_reported s k b) data_same
            (λ v. names_same _ _ (λ q e. (widening_kept k b b' o long w).shows q) s));
      }
