-- The steps of the report's code, and that its stretch of the container is the bitcode.
-- Assumes nothing.
use Rattle.std.specs.Prelude.{Result, Ok, Err, IsErr, IsErrAnd, None, Option, Some}
use Prim.Native.Nat.{ℕ, ◌+◌, ◌-◌, ◌≤◌}
use mathlib.Core.Path.{◌≡◌, refl, sym, ◌∙◌}
use mathlib.Core.List.{List, []}
use native.Mathlib.Omega.{arith}
use lib.ListN.{length, take, drop, length-take, length-drop}
use borrow.Author.Tests.{eq-eqb, ne_eqb}
use Rattle.wire.specs.Number.{u32_at}
use Rattle.wire.specs.Verdict.{◌then◌, check, Verdict, Accepted, Refused}
use Rattle.wire.proofs.Verdicts.{accepts, passed_on, refused_by, accepted_by, value_by}
use Rattle.wire.specs.declared.Refusal.{Refusal}
use Rattle.part_table_layout.specs.Lookup.{find}
use Rattle.part_table_layout.specs.declared.Part.{Part}
use Rattle.psv0_layout.specs.Answers.{info_of, info_answer_of, bytes_beside}
use Rattle.psv0_layout.specs.declared.RuntimeInfo.{RuntimeInfo}
use Rattle.container_layout.specs.Container.{dxil, is_there, start_found, data_found, container_judged, container_answered, container_part, container_occurrence, occurrence_data_of, part_data_of}
use Rattle.container_layout.specs.Report.{data_named, reported}
use Rattle.part_table_layout.proofs.Lookups.{ok_err}
use Rattle.container_layout.proofs.Parts.{part_fits, part_short}
use Rattle.container_layout.proofs.Reports.{reported_open, reported_opens, reported_refused, part_passed, data_reported, starts_at, data_there, opened_data, reported_judged, reported_inside, reported_part}
use Rattle.dxil_layout.specs.Program.{bitcode_start, program_judged, program_shown, program_of, bitcode_of}
use Rattle.dxil_layout.specs.declared.Program.{Program}
use Rattle.dxil_layout.proofs.Programs.{stretch_inside, all_shown}
use Rattle.dxil_report_layout.specs.Reported.{program_reported, psv_stage, stages_of, report_shown, program_report_of, bitcode_reported}
use Rattle.dxil_report_layout.specs.declared.ProgramReport.{ProgramReport}
use Rattle.dxil_report_layout.specs.declared.Stages.{Stages}
use Rattle.dxil_report_layout.specs.declared.Stages.TheVariants.{Equal, Different}

-- ---- the two stages, s the header's and f PSV0's
module _ {s n : ℕ} {f : Option ℕ} (hf : f ≡ Some n) where
  pub stages_equal : s ≡ n → Equal ≡ stages_of s f
  stages_equal e = rw (hf, eq-eqb s n e)

  pub stages_different : (s ≡ n → ⊥) → Different ≡ stages_of s f
  stages_different e = rw (hf, ne_eqb s n e)

-- ---- r is what the query for the DXIL part answers, and q the part
module _ (k : ℕ) (b : List ℕ) {r : Result Part Refusal} (hr : r ≡ container_part k b dxil) where
  pub part_refused : {w : Result ProgramReport Refusal} {e : Refusal} → IsErr w × IsErrAnd w (λ (s : Refusal). s ≡ e) → r ≡ Err e
      → w ≡ program_report_of k b
  unfolding program_report_of program_reported
  part_refused hw e = part_passed program_judged k b dxil hr _ hw e

  -- g is what was read of its data
  module _ {q : Part} (h : r ≡ Ok q) {g : Result Program Refusal}
      (hg : g ≡ program_of (take (q.offset + 8 + q.size - (q.offset + 8)) (drop (q.offset + 8) b))) where
    read_is : g ≡ program_of (data_named b dxil)
    read_is = rw (data_there k b dxil hr h) at hg

    reported_is : program_judged (data_named b dxil) ≡ program_reported k b
    unfolding program_reported
    reported_is = data_reported program_judged k b dxil hr h

    pub program_refused : {w : Result ProgramReport Refusal} {e : Refusal} → IsErr w × IsErrAnd w (λ (s : Refusal). s ≡ e) → g ≡ Err e
        → w ≡ program_report_of k b
    unfolding program_report_of program_of
    program_refused hw e = passed_on (program_reported k b) (program_shown (data_named b dxil)) (read_is ∙ rw reported_is) _ hw e

    module _ {p : Program} (e : g ≡ Ok p) where
      -- where the bitcode ends
      pub bitcode_short : q.offset + 8 + (p.start + p.len) ≤ 16777216
      bitcode_short =
          let i = stretch_inside _ hg e in
          let s = part_short k b dxil 0 hr h in
          let f = part_fits k b dxil 0 hr h in
          omega (arith, simp (length-take, length-drop) at i)

      opened : container_judged k b ≡ Accepted
      unfolding program_of program_reported
      opened = reported_opens program_judged dxil k b (sym reported_is ∙ accepted_by _ _ read_is e)

      -- the runtime info, i, is not refused: the container opens
      pub info_refused : {i : Result RuntimeInfo Refusal} {n : Refusal} → i ≡ info_answer_of (container_judged k b) (container_answered k b) → i ≡ Err n
          → {A : Type 0} → A
      unfolding info_answer_of
      info_refused hi n = ok_err (sym n ∙ hi ∙ sym (accepts (container_judged k b) _ (sym opened)))

      pub program_accepted : {i : Result RuntimeInfo Refusal} {a : RuntimeInfo} {s : Stages}
          → i ≡ info_answer_of (container_judged k b) (container_answered k b) → i ≡ Ok a → s ≡ stages_of p.header.stage a.stage
          → Ok (record { header = p.header; start = q.offset + 8 + p.start; len = p.len; psv0_stage = a.stage; stages = s })
          ≡ program_report_of k b
      unfolding program_report_of program_of psv_stage info_answer_of info_of
      program_accepted hi ha hs =
          accepts _ _ (sym (accepted_by _ _ read_is e) ∙ reported_is)
          ∙ rw (hs, value_by _ _ hi ha, starts_at k b dxil hr h, value_by _ _ read_is e)

-- ---- the bitcode of a container, from the DXIL part's data where it opens
-- beside a refusal of the data their bitcode has no bytes
bitcode_beside : (v : Verdict) (d : List ℕ) → program_judged d ≡ v → bitcode_of d ≡ bytes_beside v (bitcode_of d)
unfolding bitcode_of
bitcode_beside Accepted d h = refl
bitcode_beside (Refused n p) d h = rw h

no_bitcode : bitcode_of [] ≡ []
unfolding bitcode_of program_judged check ◌then◌
no_bitcode = refl

there_if : (v : Verdict) (f : Option ℕ) (b : List ℕ) → program_judged (data_found b f) ≡ v → bitcode_of (data_found b f) ≡ bytes_beside (check (is_there f) 26 0 then v) (bitcode_of (data_found b f))
unfolding check ◌then◌
there_if v (Some i) b h = bitcode_beside v _ h
there_if v None b h = no_bitcode

pub bitcode_is : (k : ℕ) (b : List ℕ) → bitcode_of (part_data_of k b dxil) ≡ bitcode_reported k b
unfolding bitcode_reported program_reported
bitcode_is k b = go (container_judged k b) refl
  where
    go : (v : Verdict) → container_judged k b ≡ v → bitcode_of (part_data_of k b dxil) ≡ bytes_beside (reported program_judged dxil k b) (bitcode_of (data_named b dxil))
    go Accepted o =
        rw (opened_data k b dxil o, reported_open program_judged dxil k b o)
        (unfold data_named in there_if (program_judged (data_found b (find b dxil))) (find b dxil) b refl)
    go (Refused n p) o = rw (reported_refused program_judged dxil k b o) (unfold occurrence_data_of container_occurrence in rw o no_bitcode)

-- ---- the stretch that a report shows lies inside the container and is the bitcode; a refusal has none
module _ (k : ℕ) (b : List ℕ) (a : program_reported k b ≡ Accepted) where
  judged : program_judged (data_named b dxil) ≡ Accepted
  unfolding program_reported
  judged = reported_judged program_judged dxil k b a

  ends : bitcode_start (data_named b dxil) + u32_at (data_named b dxil) 20 ≤ length (data_named b dxil)
  ends = stretch_inside (data_named b dxil) refl (sym (all_shown (data_named b dxil) (sym judged)))

  accepted_inside : start_found b (find b dxil) + bitcode_start (data_named b dxil) + u32_at (data_named b dxil) 20 ≤ length b
  unfolding program_reported
  accepted_inside = omega (arith, ends, reported_inside program_judged dxil k b a)

  accepted_bytes : take (u32_at (data_named b dxil) 20) (drop (start_found b (find b dxil) + bitcode_start (data_named b dxil)) b) ≡ bitcode_of (data_named b dxil)
  unfolding bitcode_of program_reported
  accepted_bytes = rw judged (reported_part program_judged dxil k b a (bitcode_start (data_named b dxil)) (u32_at (data_named b dxil) 20) ends)

module _ (k : ℕ) (b : List ℕ) where
  pub refused_without : {e : Refusal} → program_report_of k b ≡ Err e → bitcode_reported k b ≡ []
  unfolding program_report_of bitcode_reported
  refused_without e = rw (refused_by _ _ refl e)

  module _ {r : ProgramReport} (e : program_report_of k b ≡ Ok r) where
    accepted : program_reported k b ≡ Accepted
    unfolding program_report_of
    accepted = accepted_by _ _ refl e

    shown : r ≡ report_shown k b
    unfolding program_report_of
    shown = value_by _ _ refl e

    pub stretch_inside_container : r.start + r.len ≤ length b
    stretch_inside_container = rw shown (accepted_inside k b accepted)

    pub stretch_is_bitcode : take r.len (drop r.start b) ≡ bitcode_reported k b
    unfolding bitcode_reported
    stretch_is_bitcode = rw (shown, accepted) (accepted_bytes k b accepted)
