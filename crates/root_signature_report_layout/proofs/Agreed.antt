-- What the reports of two editions have in common, and what a widening keeps.
-- Assumes nothing.
use Rattle.std.specs.Prelude.{Ok}
use Prim.Native.Nat.{ℕ, ◌≤◌}
use mathlib.Core.Path.{◌≡◌, refl, sym, ◌∙◌}
use mathlib.Core.List.{List}
use native.Mathlib.Omega.{arith}
use Rattle.constants.specs.Edition.{size_of}
use Rattle.wire.specs.Number.{u32_at}
use Rattle.wire.specs.Verdict.{verdict_of, Accepted, Refused}
use Rattle.wire.proofs.Verdicts.{verdict_is, value_by}
use Rattle.container_layout.specs.Container.{psv0, psv_of, container_judged}
use Rattle.container_layout.specs.Widened.{WiderContainer}
use Rattle.container_layout.proofs.Reports.{reports_agree, data_kept, report_kept}
use Rattle.root_signature_layout.specs.Root.{root_judged}
use Rattle.root_signature_report_layout.specs.Reported.{rts0, root_data, root_reported, report_shown, root_report_of, item_reported, item_report_of, range_report_of}
use Rattle.root_signature_report_layout.specs.declared.RootReport.{RootReport}

-- ---- two editions, i the older and j the newer. Where the older refuses to open the bytes, the newer's report gives that refusal; what the newer
-- report accepts, the older accepts; and where the newer opens the bytes, the report is the same at both, refusal or values, every item and range
pub record RootsAgree (i j : ℕ) (b : List ℕ) : Type 0 where
  pub refuses : (n p : ℕ) → container_judged i b ≡ Refused n p → root_reported j b ≡ Refused n p
  pub accepts : root_reported j b ≡ Accepted → root_reported i b ≡ Accepted
  pub report : container_judged j b ≡ Accepted → root_report_of j b ≡ root_report_of i b
  pub item : container_judged j b ≡ Accepted → (m : ℕ) → item_report_of j b m ≡ item_report_of i b m
  pub range : container_judged j b ≡ Accepted → (m n : ℕ) → range_report_of j b m n ≡ range_report_of i b m n

pub roots_agree : (i j : ℕ) (b : List ℕ) → i ≤ j → j ≤ 3 → RootsAgree i j b
unfolding root_report_of item_report_of range_report_of item_reported
roots_agree i j b h l =
    let a = reports_agree root_judged rts0 i j b h l in
    let same : container_judged j b ≡ Accepted → root_reported j b ≡ root_reported i b = unfold root_reported in a.same in
    record {
      refuses = λ n p r. unfold root_reported in a.refuses n p r;
      accepts = λ r. unfold root_reported in a.accepts r;
      report = λ o. rw (same o);
      item = λ o m. rw (same o);
      range = λ o m n. rw (same o);
    }

shown : (k : ℕ) (b : List ℕ) {r : RootReport} → root_report_of k b ≡ Ok r → r ≡ report_shown b
unfolding root_report_of
shown k b e = value_by _ _ refl e

-- ---- a widening shows the same report: of reader k, the container b and its widening b', where the runtime record is at least that edition's size.
-- Where the part lies in the file is not compared
pub record RootKept (k : ℕ) (b b' : List ℕ) : Type 0 where
  pub verdict : verdict_of (root_report_of k b') ≡ verdict_of (root_report_of k b)
  pub header : {r s : RootReport} → root_report_of k b ≡ Ok r → root_report_of k b' ≡ Ok s → s.header ≡ r.header
  pub len : {r s : RootReport} → root_report_of k b ≡ Ok r → root_report_of k b' ≡ Ok s → s.len ≡ r.len
  pub item : (m : ℕ) → item_report_of k b' m ≡ item_report_of k b m
  pub range : (m n : ℕ) → range_report_of k b' m n ≡ range_report_of k b m n

not_psv0 : rts0 ≡ psv0 → ⊥
unfolding u32_at
not_psv0 e = omega arith

module _ (k : ℕ) (b b' : List ℕ) (o : container_judged k b ≡ Accepted) (long : size_of k ≤ u32_at (psv_of b) 0) (w : WiderContainer k b b') where
  data_same : root_data b' ≡ root_data b
  data_same = data_kept k b b' w rts0 not_psv0

  verdict_same : root_reported k b' ≡ root_reported k b
  unfolding root_reported
  verdict_same = report_kept k b b' w rts0 not_psv0 root_judged o long

  pub root_kept : RootKept k b b'
  unfolding root_report_of item_report_of range_report_of item_reported
  root_kept =
      record {
        verdict = verdict_is _ _ refl ∙ verdict_same ∙ sym (verdict_is _ _ refl);
        header = λ e f. rw (shown k b e, shown k b' f, data_same);
        len = λ e f. rw (shown k b e, shown k b' f, data_same);
        item = λ m. rw (verdict_same, data_same);
        range = λ m n. rw (verdict_same, data_same);
      }
