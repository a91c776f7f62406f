-- What an opening tells, from the PSV0 part that the container's lookup gives: its verdict, and the bytes of its data.
-- Assumes nothing.
use Rattle.std.specs.Prelude.{Option, Result, Ok, Err, IsErr, IsErrAnd}
use Prim.Native.Nat.{ℕ, ◌+◌, ◌-◌, min, ◌≤◌}
use mathlib.Core.Path.{◌≡◌, refl, sym, ◌∙◌, ap}
use mathlib.Core.Bool.{Bool, true, false}
use mathlib.Core.List.{List}
use native.Mathlib.Omega.{arith}
use lib.Dec.{leb}
use lib.ListN.{length, get_or, take, drop, length-take}
use borrow.Author.Tests.{leb-true}
use Rattle.constants.specs.Edition.{file_edition_of}
use Rattle.wire.specs.Number.{u32_at}
use Rattle.wire.specs.Verdict.{◌then◌, check, under, Verdict, Accepted, Refused}
use Rattle.wire.specs.declared.Refusal.{Refusal}
use Rattle.part_table_layout.specs.Lookup.{find}
use Rattle.part_table_layout.specs.declared.Part.{Part}
use Rattle.psv0_layout.specs.Answers.{field_of}
use Rattle.psv0_layout.specs.Field.{stage}
use Rattle.psv0_layout.specs.Layout.{sections, seen, edition_read_of}
use Rattle.psv0_layout.specs.Shown.{number, set_if, value, shown_at}
use Rattle.psv0_layout.proofs.Opened.{head_fits, head_accepted, later_size}
use Rattle.psv0_layout.proofs.Positions.{part_byte, part_u32, runtime_byte}
use Rattle.container_layout.specs.Container.{psv0, is_there, psv_of, container_judged, container_answered, container_part}
use Rattle.container_layout.specs.Report.{data_named, reported}
use Rattle.container_layout.proofs.Containers.{before_told, opened_told, data_opens}
use Rattle.container_layout.proofs.Parts.{opens, part_short}
use Rattle.container_layout.proofs.Reports.{no_report, part_passed, data_there}
use Rattle.figures_layout.specs.declared.Told.{Told}
use Rattle.figures_layout.specs.Kinds.{answer_of}

-- a container that opens has a PSV0 part, so asking for it gives what opening gives
asked : (k : ℕ) (b : List ℕ) → reported (λ d. Accepted) psv0 k b ≡ container_judged k b
unfolding reported ◌then◌ check
asked k b = go (container_judged k b) refl
  where
    go : (v : Verdict) → container_judged k b ≡ v → (v then check (is_there (find b psv0)) 26 0 then Accepted) ≡ v
    go Accepted e = rw (before_told k b (opened_told k b e).0).validation
    go (Refused n p) e = refl

-- ---- r is what the query for the PSV0 part answers, and p the part
module _ (k : ℕ) (b : List ℕ) {r : Result Part Refusal} (hr : r ≡ container_part k b psv0) where
  pub refused_answer : {q : Refusal} → r ≡ Err q → record { opening = Err q; len = length b } ≡ answer_of k b
  unfolding answer_of under
  refused_answer h = let e : container_judged k b ≡ Refused _ _ = sym (no_report (λ d. Accepted) k b psv0 hr h ∙ asked k b) in rw e

  -- what `?` returns of a part that is refused
  pub told_passed : {w : Result Told Refusal} {q : Refusal} → IsErr w × IsErrAnd w (λ (s : Refusal). s ≡ q) → r ≡ Err q → w ≡ (answer_of k b).opening
  unfolding answer_of
  told_passed h e = rw (← asked k b) (part_passed (λ d. Accepted) k b psv0 hr _ h e)

  module _ {p : Part} (h : r ≡ Ok p) where
    judged : container_judged k b ≡ Accepted
    judged = opens k b psv0 0 hr h

    data_is : take p.size (drop (p.offset + 8) b) ≡ psv_of b
    unfolding psv_of
    data_is =
        let z : p.offset + 8 + p.size - (p.offset + 8) ≡ p.size = omega arith in
        rw (← z) (data_there k b psv0 hr h ∙ unfold data_named in refl)

    -- the data are as long as section 1 says at least
    size_most : 4 + u32_at (psv_of b) 0 ≤ p.size
    size_most =
        let f = (head_fits (psv_of b) (head_accepted k (psv_of b) (data_opens k b judged))).runtime in
        let e = ap length data_is in
        omega (arith, simp length-take at e)

    pub place_short : p.offset + 36 ≤ 16777216
    place_short =
        let s = part_short k b psv0 0 hr h in
        let l = (head_fits (psv_of b) (head_accepted k (psv_of b) (data_opens k b judged))).least in
        let m = size_most in
        omega arith

    pub edition_is : file_edition_of (u32_at b (p.offset + 8)) ≡ file_edition_of (u32_at (psv_of b) 0)
    edition_is =
        let m = size_most in
        let z : p.offset + 8 + 0 ≡ p.offset + 8 = omega arith in
        let e : u32_at (take p.size (drop (p.offset + 8) b)) 0 ≡ u32_at b (p.offset + 8 + 0) = part_u32 b (p.offset + 8) p.size 0 (omega arith) in
        rw (← data_is, e, z)

    stage_is : 1 ≤ edition_read_of k (psv_of b) → get_or b (p.offset + 36) 0 ≡ stage (seen 1 (sections (psv_of b))).runtime
    stage_is l =
        let s = later_size k (psv_of b) (data_opens k b judged) l in
        let m = size_most in
        let z : p.offset + 8 + 28 ≡ p.offset + 36 = omega arith in
        let e : get_or (take p.size (drop (p.offset + 8) b)) 28 0 ≡ get_or b (p.offset + 8 + 28) 0 = part_byte b (p.offset + 8) p.size 28 (omega arith) in
        let f : get_or (take p.size (drop (p.offset + 8) b)) 28 0 ≡ get_or (psv_of b) 28 0 = ap (λ (d : List ℕ). get_or d 28 0) data_is in
        ap (λ n. get_or b n 0) (sym z) ∙ sym e ∙ f ∙ sym (runtime_byte (psv_of b) 1 s 24 (omega arith))

    stage_shown : (t : Bool) → leb 1 (edition_read_of k (psv_of b)) ≡ t
        → set_if t (number (get_or b (p.offset + 36) 0)) ≡ set_if t (number (stage (seen 1 (sections (psv_of b))).runtime))
    stage_shown true e = ap number (stage_is (leb-true 1 _ e))
    stage_shown false e = refl

    pub accepted_answer : {e : ℕ} {s : Option ℕ} → e ≡ file_edition_of (u32_at b (p.offset + 8))
        → s ≡ field_of (set_if (leb 1 (min k e)) (number (get_or b (p.offset + 36) 0)))
        → record { opening = Ok (record { file_edition = e; stage = s }); len = length b } ≡ answer_of k b
    unfolding answer_of container_answered shown_at value under
    accepted_answer he hs =
        let g = he ∙ edition_is in
        let j = judged in
        let x = stage_shown (leb 1 (edition_read_of k (psv_of b))) refl in
        rw (hs, g, x, j)
