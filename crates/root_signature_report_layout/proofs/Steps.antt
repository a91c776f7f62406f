-- The steps of the report's code, and that the stretch it shows is the part's data.
-- Assumes nothing.
use Rattle.std.specs.Prelude.{Result, Ok, Err, IsErr, IsErrAnd}
use Prim.Native.Nat.{ℕ, ◌+◌, ◌-◌, ◌≤◌}
use mathlib.Core.Path.{◌≡◌, refl, sym, ◌∙◌}
use mathlib.Core.List.{List}
use lib.ListN.{length, take, drop}
use Rattle.wire.specs.Verdict.{◌then◌, under, Verdict, Accepted, Refused}
use Rattle.wire.specs.declared.Refusal.{Refusal}
use Rattle.wire.proofs.Verdicts.{stop_then, refuses, accepted_by, value_by}
use Rattle.psv0_layout.proofs.Spans.{passed_err}
use Rattle.part_table_layout.specs.declared.Part.{Part}
use Rattle.container_layout.specs.Container.{container_part}
use Rattle.container_layout.proofs.Reports.{no_report, part_passed, data_reported, starts_at, data_there, reported_judged, reported_size, reported_inside, reported_bytes}
use Rattle.root_signature_layout.specs.Root.{root_judged, header_of, root_of, item_queried, item_of, range_answer_of}
use Rattle.root_signature_layout.specs.declared.DescriptorRange.{DescriptorRange}
use Rattle.root_signature_layout.specs.declared.Item.{Item}
use Rattle.root_signature_layout.specs.declared.RootHeader.{RootHeader}
use Rattle.root_signature_report_layout.specs.Reported.{rts0, root_data, root_reported, report_shown, root_report_of, item_reported, item_report_of, range_report_of}
use Rattle.root_signature_report_layout.specs.declared.RootReport.{RootReport}

-- ---- r is what the query for the part answers, and q the part
module _ (k : ℕ) (b : List ℕ) {r : Result Part Refusal} (hr : r ≡ container_part k b rts0) where
  -- no part: what opening gives, or 26
  pub part_refused : {w : Result RootReport Refusal} {e : Refusal} → IsErr w × IsErrAnd w (λ (u : Refusal). u ≡ e) → r ≡ Err e → w ≡ root_report_of k b
  unfolding root_report_of root_reported
  part_refused hw h = part_passed root_judged k b rts0 hr _ hw h

  -- and of what else is asked of it
  stops : {e : Refusal} → r ≡ Err e → (v : Verdict) → Refused e.number e.place ≡ (root_reported k b then v)
  unfolding root_reported
  stops h v = stop_then _ _ _ _ (sym (no_report root_judged k b rts0 hr h))

  pub part_no_item : (i : ℕ) {w : Result Item Refusal} {e : Refusal} → IsErr w × IsErrAnd w (λ (u : Refusal). u ≡ e) → r ≡ Err e → w ≡ item_report_of k b i
  unfolding item_report_of item_reported
  part_no_item i hw h = refuses _ _ (passed_err _ hw) (stops h _)

  pub part_no_range : (i j : ℕ) {w : Result DescriptorRange Refusal} {e : Refusal} → IsErr w × IsErrAnd w (λ (u : Refusal). u ≡ e) → r ≡ Err e
      → w ≡ range_report_of k b i j
  unfolding range_report_of item_reported
  part_no_range i j hw h = refuses _ _ (passed_err _ hw) (stop_then _ _ _ _ (sym (stops h _)))

  module _ {q : Part} (h : r ≡ Ok q) where
    data_is : take (q.offset + 8 + q.size - (q.offset + 8)) (drop (q.offset + 8) b) ≡ root_data b
    data_is = data_there k b rts0 hr h

    judged_is : root_judged (root_data b) ≡ root_reported k b
    unfolding root_reported
    judged_is = data_reported root_judged k b rts0 hr h

    size_is : root_reported k b ≡ Accepted → q.size ≡ length (root_data b)
    unfolding root_reported
    size_is v = sym (reported_size root_judged rts0 k b v (sym hr ∙ h))

    -- g is what was read of the data
    module _ {g : Result RootHeader Refusal} (hg : g ≡ root_of (take (q.offset + 8 + q.size - (q.offset + 8)) (drop (q.offset + 8) b))) where
      pub header_is : g ≡ under (root_reported k b) (header_of (root_data b))
      unfolding root_of
      header_is = hg ∙ rw (data_is, judged_is)

      pub data_accepted : {x : RootHeader} → g ≡ Ok x → Ok (record { header = x; start = q.offset + 8; len = q.size }) ≡ root_report_of k b
      unfolding root_report_of under
      data_accepted e =
          let v = accepted_by _ _ header_is e in
          rw (v, starts_at k b rts0 hr h, size_is v, value_by _ _ header_is e)

    -- item i of the data, and range j of it
    pub item_is : (i : ℕ) {a : Result Item Refusal} → a ≡ item_of (take (q.offset + 8 + q.size - (q.offset + 8)) (drop (q.offset + 8) b)) i
        → a ≡ item_report_of k b i
    unfolding item_report_of item_reported item_of item_queried
    item_is i e = e ∙ rw (data_is, judged_is)

    pub range_is : (i j : ℕ) {a : Result DescriptorRange Refusal} → a ≡ range_answer_of (take (q.offset + 8 + q.size - (q.offset + 8)) (drop (q.offset + 8) b)) i j
        → a ≡ range_report_of k b i j
    unfolding range_report_of item_reported range_answer_of item_queried
    range_is i j e = e ∙ rw (data_is, judged_is)

-- ---- the stretch that a report r shows lies inside the container, and is data that the reader of the data alone accepts
module _ (k : ℕ) (b : List ℕ) {r : RootReport} (e : root_report_of k b ≡ Ok r) where
  accepted : root_reported k b ≡ Accepted
  unfolding root_report_of
  accepted = accepted_by _ _ refl e

  shown : r ≡ report_shown b
  unfolding root_report_of
  shown = value_by _ _ refl e

  pub stretch_inside : r.start + r.len ≤ length b
  unfolding root_reported
  stretch_inside = rw shown (reported_inside root_judged rts0 k b accepted)

  pub stretch_is : take r.len (drop r.start b) ≡ root_data b
  unfolding root_reported
  stretch_is = rw shown (reported_bytes root_judged rts0 k b accepted)

  pub stretch_judged : root_judged (take r.len (drop r.start b)) ≡ Accepted
  unfolding root_reported
  stretch_judged = rw stretch_is (reported_judged root_judged rts0 k b accepted)
