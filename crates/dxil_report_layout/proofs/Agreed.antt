-- What the reports of two editions have in common, and what a widening keeps.
-- Assumes nothing.
use Rattle.std.specs.Prelude.{Ok, Err, None, Option, Some}
use Prim.Native.Nat.{ℕ, ◌≤◌}
use mathlib.Core.Path.{◌≡◌, refl, sym, ◌∙◌, ap}
use mathlib.Core.Bool.{true, true≢false}
use mathlib.Core.List.{List}
use native.Mathlib.Omega.{arith}
use lib.Dec.{ltb}
use Rattle.constants.specs.Edition.{size_of}
use Rattle.wire.specs.Number.{u32_at}
use Rattle.wire.specs.Verdict.{◌then◌, check, under, verdict_of, Verdict, Accepted, Refused}
use Rattle.wire.proofs.Verdicts.{verdict_is as verdict_of_it, accepted_by, value_by}
use Rattle.part_table_layout.specs.Lookup.{find}
use Rattle.psv0_layout.specs.Answers.{field_of}
use Rattle.psv0_layout.specs.Shown.{stage_number}
use Rattle.container_layout.specs.Container.{dxil, psv0, is_there, size_found, psv_of, container_judged}
use Rattle.container_layout.specs.Report.{data_named, reported}
use Rattle.container_layout.specs.Widened.{WiderContainer}
use Rattle.container_layout.proofs.Containers.{before_told, opened_told}
use Rattle.container_layout.proofs.Demand3.{editions_agree, widening_kept}
use Rattle.container_layout.proofs.Reports.{reports_agree, reported_opens, data_kept, report_kept}
use Rattle.dxil_layout.specs.Program.{program_judged}
use Rattle.dxil_report_layout.specs.Reported.{program_reported, psv_stage, report_shown, program_report_of, bitcode_reported}
use Rattle.dxil_report_layout.specs.declared.ProgramReport.{ProgramReport}
use Rattle.dxil_report_layout.specs.declared.Stages.TheVariants.{Unset as NoStage}

-- "what opening gives, then 40 to 42": 26 is never given, since a container that opens has a DXIL part
there_if : (b : List ℕ) (f : Option ℕ) → ltb 0 (size_found b f) ≡ true → is_there f ≡ true
there_if b (Some i) h = refl
there_if b None h = absurd (true≢false (sym h))

pub program_order : (k : ℕ) (b : List ℕ) → program_reported k b ≡ (container_judged k b then program_judged (data_named b dxil))
unfolding program_reported reported ◌then◌ check
program_order k b = go (container_judged k b) refl
  where
    go : (v : Verdict) → container_judged k b ≡ v
        → (v then check (is_there (find b dxil)) 26 0 then program_judged (data_named b dxil)) ≡ (v then program_judged (data_named b dxil))
    go (Refused n p) e = refl
    go Accepted e = let t = there_if b (find b dxil) (before_told k b (opened_told k b e).0).program in rw t

-- the verdict of a report
pub verdict_is : (k : ℕ) (b : List ℕ) → verdict_of (program_report_of k b) ≡ program_reported k b
unfolding program_report_of
verdict_is k b = verdict_of_it _ _ refl

-- what an accepting report tells
module _ (k : ℕ) (b : List ℕ) {r : ProgramReport} (e : program_report_of k b ≡ Ok r) where
  shown : r ≡ report_shown k b
  unfolding program_report_of
  shown = value_by _ _ refl e

  opens : container_judged k b ≡ Accepted
  unfolding program_report_of program_reported
  opens = reported_opens program_judged dxil k b (accepted_by _ _ refl e)

-- ---- two editions, i the older and j the newer. "Where the newer of two editions opens the bytes", both give the same refusal 40 to 42 or
-- the same header and bitcode, and of the stages what the older shows set the newer shows set and the same. What the newer report accepts,
-- the older accepts. Where the older refuses to open the bytes, the newer's report gives that refusal. (A plain "an older refusal is the
-- newer's" is false of reports: where the older gives 40 the newer may give 24, since the opening's refusals come first.)
pub record ProgramsAgree (i j : ℕ) (b : List ℕ) : Type 0 where
  pub refuses : (n p : ℕ) → container_judged i b ≡ Refused n p → program_report_of j b ≡ Err (record { number = n; place = p })
  pub accepts : verdict_of (program_report_of j b) ≡ Accepted → verdict_of (program_report_of i b) ≡ Accepted
  pub verdict : container_judged j b ≡ Accepted → verdict_of (program_report_of j b) ≡ verdict_of (program_report_of i b)
  pub bitcode : container_judged j b ≡ Accepted → bitcode_reported j b ≡ bitcode_reported i b
  pub header : {r s : ProgramReport} → program_report_of i b ≡ Ok r → program_report_of j b ≡ Ok s → s.header ≡ r.header
  pub stage : {r s : ProgramReport} → program_report_of i b ≡ Ok r → program_report_of j b ≡ Ok s
      → (r.psv0_stage ≡ None → ⊥) → s.psv0_stage ≡ r.psv0_stage
  pub stages : {r s : ProgramReport} → program_report_of i b ≡ Ok r → program_report_of j b ≡ Ok s → (r.stages ≡ NoStage → ⊥) → s.stages ≡ r.stages

module _ (i j : ℕ) (b : List ℕ) (h : i ≤ j) (l : j ≤ 3) where
  stage_newer : container_judged j b ≡ Accepted → (psv_stage i b ≡ None → ⊥) → psv_stage j b ≡ psv_stage i b
  unfolding psv_stage
  stage_newer o u = ap field_of ((editions_agree i j b h l).shows o stage_number (λ e. u (rw e)))

  pub programs_agree : ProgramsAgree i j b
  unfolding bitcode_reported
  programs_agree =
      let a = reports_agree program_judged dxil i j b h l in
      let s : container_judged j b ≡ Accepted → program_reported j b ≡ program_reported i b = unfold program_reported in a.same in
      record {
        refuses = λ n p r. unfold program_report_of under program_reported in rw (a.refuses n p r);
        accepts = λ r. verdict_is i b ∙ (unfold program_reported in a.accepts (sym (verdict_is j b) ∙ r));
        verdict = λ o. verdict_is j b ∙ s o ∙ sym (verdict_is i b);
        bitcode = λ o. rw (s o);
        header = λ e f. rw (shown i b e, shown j b f);
        stage = λ e f u. rw (shown i b e, shown j b f) (stage_newer (opens j b f) (λ q. u (rw (shown i b e, q))));
        stages = λ e f u. rw (shown i b e, shown j b f, stage_newer (opens j b f) (λ q. u (rw (shown i b e, q))));
      }

-- ---- "A widening shows the same report": of reader k, the container b and its widening b', where the runtime record is at least that edition's
-- size. The bitcode is compared by its bytes; where it lies in the file is not
pub record ProgramKept (k : ℕ) (b b' : List ℕ) : Type 0 where
  pub verdict : verdict_of (program_report_of k b') ≡ verdict_of (program_report_of k b)
  pub bitcode : bitcode_reported k b' ≡ bitcode_reported k b
  pub header : {r s : ProgramReport} → program_report_of k b ≡ Ok r → program_report_of k b' ≡ Ok s → s.header ≡ r.header
  pub stage : {r s : ProgramReport} → program_report_of k b ≡ Ok r → program_report_of k b' ≡ Ok s → s.psv0_stage ≡ r.psv0_stage
  pub stages : {r s : ProgramReport} → program_report_of k b ≡ Ok r → program_report_of k b' ≡ Ok s → s.stages ≡ r.stages

not_psv0 : dxil ≡ psv0 → ⊥
unfolding u32_at
not_psv0 e = omega arith

module _ (k : ℕ) (b b' : List ℕ) (o : container_judged k b ≡ Accepted) (long : size_of k ≤ u32_at (psv_of b) 0) (w : WiderContainer k b b') where
  pub program_kept : ProgramKept k b b'
  unfolding bitcode_reported
  program_kept =
      let v : program_reported k b' ≡ program_reported k b = unfold program_reported in report_kept k b b' w dxil not_psv0 program_judged o long in
      let d : data_named b' dxil ≡ data_named b dxil = data_kept k b b' w dxil not_psv0 in
      let p : psv_stage k b' ≡ psv_stage k b = unfold psv_stage in ap field_of ((widening_kept k b b' o long w).shows stage_number) in
      record {
        verdict = verdict_is k b' ∙ v ∙ sym (verdict_is k b);
        bitcode = rw (v, d);
        header = λ e f. rw (shown k b e, shown k b' f, d);
        stage = λ e f. rw (shown k b e, shown k b' f, p);
        stages = λ e f. rw (shown k b e, shown k b' f, d, p);
      }
