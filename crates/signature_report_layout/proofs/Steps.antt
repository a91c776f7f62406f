-- The steps of the reports' code.
-- Assumes nothing.
use Rattle.std.specs.Prelude.{Some, None, Result, Ok, Err, IsErr, IsErrAnd}
use Prim.Native.Nat.{ℕ, ◌+◌, ◌-◌, ◌*◌, ◌≤◌, ◌<◌}
use mathlib.Core.Path.{◌≡◌, sym, ◌∙◌, ap}
use mathlib.Core.Bool.{Bool, true, false, not}
use mathlib.Core.List.{List}
use native.Mathlib.Omega.{arith}
use native.Mathlib.Nat.{mul-le-mul_right, le_trans}
use lib.ListN.{length, take, drop, length-take, length-drop}
use borrow.Author.Tests.{eq-eqb, ne_eqb, lt-ltb, le-ltb}
use Rattle.wire.specs.Number.{u32_at}
use Rattle.wire.specs.Stretch.{same_bytes}
use Rattle.wire.specs.Verdict.{under, Verdict, Accepted}
use Rattle.wire.specs.declared.Refusal.{Refusal}
use Rattle.wire.proofs.Verdicts.{stop_then, passed_on, accepts, accepted_by, value_by}
use Rattle.wire.proofs.Searches.{Searched, found, none}
use Rattle.part_table_layout.specs.declared.Part.{Part}
use Rattle.psv0_layout.specs.Reference.{string_at}
use Rattle.psv0_layout.specs.Shown.{Value, unset, view}
use Rattle.container_layout.specs.Container.{container_part}
use Rattle.container_layout.proofs.Parts.{part_short, part_fits}
use Rattle.container_layout.proofs.Reports.{no_report, part_passed, data_reported, starts_at, data_there, reported_size}
use Rattle.signature_layout.specs.Signature.{count_of, first_of, element_at, name_offset_of, signature_judged, element_judged, signature_of, element_shown, element_of}
use Rattle.signature_layout.specs.declared.NameSpan.{NameSpan}
use Rattle.signature_layout.specs.declared.SignatureAnswer.{SignatureAnswer}
use Rattle.signature_layout.proofs.Signatures.{name_inside}
use Rattle.signature_report_layout.specs.Listed.{listed}
use Rattle.signature_report_layout.specs.Reported.{part_name, signature_data, signature_start, signature_reported, signature_report_of, moved, moved_name, element_reported, element_report_of, differs, differs_at, first_difference}
use Rattle.signature_report_layout.specs.declared.SignatureReport.{SignatureReport}
use Rattle.signature_report_layout.specs.declared.SignaturePart.{SignaturePart}

-- ---- r is what the query for the part answers, and q the part
module _ (s : SignaturePart) (k : ℕ) (b : List ℕ) {r : Result Part Refusal} (hr : r ≡ container_part k b (part_name s)) where
  -- no part: what opening gives, or 26
  pub part_refused : {w : Result SignatureReport Refusal} {e : Refusal} → IsErr w × IsErrAnd w (λ (u : Refusal). u ≡ e) → r ≡ Err e
      → w ≡ signature_report_of s k b
  unfolding signature_report_of signature_reported
  part_refused hw h = part_passed signature_judged k b (part_name s) hr _ hw h

  pub part_no_element : (i : ℕ) {w : Result SignatureAnswer Refusal} {e : Refusal} → IsErr w × IsErrAnd w (λ (u : Refusal). u ≡ e) → r ≡ Err e
      → w ≡ element_report_of s k b i
  unfolding element_report_of element_reported signature_reported
  part_no_element i hw h =
      let y : SignatureAnswer = moved (signature_start s b) (element_shown (signature_data s b) i) in
      let z = no_report signature_judged k b (part_name s) hr h in
      part_passed signature_judged k b (part_name s) hr y hw h ∙ ap (λ (v : Verdict). under v y) (sym z ∙ stop_then _ _ _ _ (sym z))

  module _ {q : Part} (h : r ≡ Ok q) where
    data_is : take (q.offset + 8 + q.size - (q.offset + 8)) (drop (q.offset + 8) b) ≡ signature_data s b
    data_is = data_there k b (part_name s) hr h

    judged_is : signature_judged (signature_data s b) ≡ signature_reported s k b
    unfolding signature_reported
    judged_is = data_reported signature_judged k b (part_name s) hr h

    size_is : signature_reported s k b ≡ Accepted → q.size ≡ length (signature_data s b)
    unfolding signature_reported
    size_is v = sym (reported_size signature_judged (part_name s) k b v (sym hr ∙ h))

    -- g is what was read of the data
    module _ {g : Result ℕ Refusal} (hg : g ≡ signature_of (take (q.offset + 8 + q.size - (q.offset + 8)) (drop (q.offset + 8) b))) where
      read_is : g ≡ under (signature_reported s k b) (count_of (signature_data s b))
      unfolding signature_of
      read_is = hg ∙ rw (data_is, judged_is)

      pub data_refused : {w : Result SignatureReport Refusal} {e : Refusal} → IsErr w × IsErrAnd w (λ (u : Refusal). u ≡ e) → g ≡ Err e
          → w ≡ signature_report_of s k b
      unfolding signature_report_of
      data_refused hw h = passed_on _ _ read_is _ hw h

      pub data_accepted : {n : ℕ} → g ≡ Ok n → Ok (record { count = n; start = q.offset + 8; len = q.size }) ≡ signature_report_of s k b
      unfolding signature_report_of under
      data_accepted e =
          let v = accepted_by _ _ read_is e in
          rw (v, starts_at k b (part_name s) hr h, size_is v, value_by _ _ read_is e)

    -- element i of the data
    module _ (i : ℕ) {a : Result SignatureAnswer Refusal} (ha : a ≡ element_of (take (q.offset + 8 + q.size - (q.offset + 8)) (drop (q.offset + 8) b)) i) where
      element_is : a ≡ element_of (signature_data s b) i
      element_is = ha ∙ ap (λ (d : List ℕ). element_of d i) data_is

      pub element_read : a ≡ under (element_reported s k b i) (element_shown (signature_data s b) i)
      unfolding element_reported element_of element_judged
      element_read = element_is ∙ rw judged_is

      module _ {y : SignatureAnswer} (e : a ≡ Ok y) where
        pub element_room : (x : NameSpan) → y.name ≡ Some x → q.offset + 8 + x.start ≤ 16777216
        element_room x n =
            let l = name_inside (signature_data s b) i (sym element_is ∙ e) n in
            let f = part_fits k b (part_name s) 0 hr h in
            let t = part_short k b (part_name s) 0 hr h in
            omega (arith, simp (length-take, length-drop) at (ap length data_is))

        pub element_moved : {z : SignatureAnswer} → z ≡ moved (q.offset + 8) y → Ok z ≡ element_report_of s k b i
        unfolding element_report_of
        element_moved m =
            rw (m, starts_at k b (part_name s) hr h, value_by _ _ element_read e) (accepts _ _ (sym (accepted_by _ _ element_read e)))

-- ---- whether element i differs from the list's: f is the first element's offset, o the element's name offset
module _ (d : List ℕ) (i : ℕ) (t c : List ℕ) (before size w : ℕ) {f o : ℕ} (ef : f ≡ first_of d)
    (eo : o ≡ u32_at (take (f + 32 * i + 32 - (f + 32 * i)) (drop (f + 32 * i) d)) 4) where
  offset_is : o ≡ name_offset_of d i
  unfolding element_at
  offset_is = let w : f + 32 * i + 32 - (f + 32 * i) ≡ 32 = omega arith in eo ∙ rw (w, ef)

  pub passed_over : o ≡ 0 → false ≡ differs_at d (listed t c before size w) i
  unfolding differs_at
  passed_over e = rw (← offset_is, eq-eqb o 0 e)

  module _ (z : o ≡ 0 → ⊥) where
    named : {x : Value} → listed t c before size w i ≡ x → differs (string_at d o) x ≡ differs_at d (listed t c before size w) i
    unfolding differs_at
    named e = rw (← offset_is, ne_eqb o 0 z, e)

    pub missing : size ≤ i → true ≡ differs_at d (listed t c before size w) i
    unfolding listed
    missing h = named {x = unset} (rw (le-ltb i size h))

    -- the name there is the string at q
    pub compared : i < size → {q : ℕ} {x : Bool} → q ≡ u32_at c ((before + i) * w) → x ≡ same_bytes (string_at d o) (string_at t q)
        → not x ≡ differs_at d (listed t c before size w) i
    unfolding listed
    compared h {q} eq ex = rw ex (named {x = view (string_at t q)} (rw (lt-ltb i size h, eq)))

pub place_inside : (i w before size l : ℕ) → i < size → (before + size) * w ≤ l → (before + i) * w ≤ l
place_inside i w before size l h f = le_trans (mul-le-mul_right w (let g : before + i ≤ before + size = omega arith in g)) f

-- ---- the search over the elements, n of them: it has come to i
module _ (d : List ℕ) (names : ℕ → Value) {n : ℕ} (en : n ≡ count_of d) {i : ℕ} (sr : Searched (differs_at d names) (count_of d) i) where
  pub found_first : i < n → differs_at d names i ≡ true → Some i ≡ first_difference d names
  unfolding first_difference
  found_first h e =
      let l : i < count_of d = rw en at h in
      let q = found _ _ sr l e in
      rw (← q, lt-ltb i (count_of d) l)

  pub found_none : n ≤ i → None ≡ first_difference d names
  unfolding first_difference
  found_none h =
      let l : count_of d ≤ i = rw en at h in
      let q = none _ _ sr l in
      rw (← q, le-ltb i (count_of d) l)

-- ---- an answer about the part's data, as one about the container
module _ (m : ℕ) (a : SignatureAnswer) where
  pub stays : a.name ≡ None → a ≡ moved m a
  stays e = let p : a.name ≡ moved_name m a.name = rw e in λ i. record { element = a.element; name = p i }

  pub moves : {x : NameSpan} → a.name ≡ Some x
      → ◌≡◌ {A = SignatureAnswer} (record { element = a.element; name = Some (record { start = m + x.start; len = x.len; points = x.points }) }) (moved m a)
  moves e = rw e
