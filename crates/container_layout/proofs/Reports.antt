-- Reports on one part: what two editions' reports have in common, what a widening keeps, and the steps of the code.
-- They hold of whatever judges the part's data, so that each report states them in a few lines.
-- Assumes nothing.
use Rattle.std.specs.Prelude.{None, Option, Some, Result, Ok, Err, IsErr, IsErrAnd}
use Prim.Native.Nat.{ℕ, ◌+◌, ◌-◌, ◌≤◌}
use mathlib.Core.Path.{◌≡◌, refl, sym, ◌∙◌, ap}
use mathlib.Core.Bool.{true, true≢false}
use mathlib.Core.List.{List}
use native.Mathlib.Omega.{arith}
use lib.ListN.{length, take, drop, length-drop}
use lib.Seq.{length-take-le}
use Rattle.constants.specs.Edition.{size_of}
use Rattle.wire.specs.Number.{u32_at}
use Rattle.wire.specs.Verdict.{◌then◌, check, under, verdict_of, Verdict, Accepted, Refused}
use Rattle.wire.specs.declared.Refusal.{Refusal}
use Rattle.wire.proofs.Verdicts.{then_accepted, check_then, stop_then, refuses}
use Rattle.part_table_layout.specs.Lookup.{find, find_occurrence, part_at, part_if, data_if}
use Rattle.part_table_layout.specs.Table.{offset_at, size_at}
use Rattle.part_table_layout.specs.declared.Part.{Part}
use Rattle.part_table_layout.proofs.Lookups.{first_occurrence, occurrence_told, ok_err}
use Rattle.psv0_layout.proofs.Positions.{part_part}
use Rattle.psv0_layout.proofs.Spans.{passed_err}
use Rattle.container_layout.specs.Container.{psv0, is_there, start_found, data_found, psv_of, container_judged, container_part, container_occurrence, occurrence_data_of, part_data_of}
use Rattle.container_layout.specs.Report.{data_named, reported}
use Rattle.container_layout.specs.Widened.{WiderContainer}
use Rattle.container_layout.proofs.Containers.{find_same, occurrence_same, wider_parts}
use Rattle.container_layout.proofs.Demand3.{editions_agree, widening_kept}
use Rattle.container_layout.proofs.Parts.{opens, shown_part, part_fits, part_data}

module _ (judge : List ℕ → Verdict) (x : ℕ) where
  -- a report on bytes that open
  pub reported_open : (k : ℕ) (b : List ℕ) → container_judged k b ≡ Accepted
      → reported judge x k b ≡ (check (is_there (find b x)) 26 0 then judge (data_named b x))
  unfolding reported ◌then◌
  reported_open k b h = rw h

  pub reported_opens : (k : ℕ) (b : List ℕ) → reported judge x k b ≡ Accepted → container_judged k b ≡ Accepted
  unfolding reported
  reported_opens k b h = (then_accepted _ _ h).0

  pub reported_refused : (k : ℕ) (b : List ℕ) {n p : ℕ} → container_judged k b ≡ Refused n p → reported judge x k b ≡ Refused n p
  unfolding reported
  reported_refused k b h = sym (stop_then _ _ _ _ h)

  -- ---- two editions, i the older and j the newer. Where the older refuses to open the bytes, the newer's report gives that refusal; where
  -- the newer opens them, both reports give the same; and what the newer report accepts, the older accepts. (An older report's own refusal
  -- need not be the newer's: the newer may refuse to open.)
  pub record ReportsAgree (i j : ℕ) (b : List ℕ) : Type 0 where
    pub refuses : (n p : ℕ) → container_judged i b ≡ Refused n p → reported judge x j b ≡ Refused n p
    pub same : container_judged j b ≡ Accepted → reported judge x j b ≡ reported judge x i b
    pub accepts : reported judge x j b ≡ Accepted → reported judge x i b ≡ Accepted

  pub reports_agree : (i j : ℕ) (b : List ℕ) → i ≤ j → j ≤ 3 → ReportsAgree i j b
  reports_agree i j b h l =
      let e = editions_agree i j b h l in
      let s : container_judged j b ≡ Accepted → reported judge x j b ≡ reported judge x i b =
      λ o. reported_open j b o ∙ sym (reported_open i b (e.opens o)) in
      record {
        refuses = λ n p r. reported_refused j b (e.refuses n p r);
        same = s;
        accepts = λ a. sym (s (reported_opens j b a)) ∙ a;
      }

-- ---- a widening keeps every part but PSV0, and so the report on it
module _ (k : ℕ) (b b' : List ℕ) (w : WiderContainer k b b') (x : ℕ) (other : x ≡ psv0 → ⊥) where
  -- its data, with any occurrence
  pub occurrence_kept : (o : ℕ) → data_found b' (find_occurrence b' x o) ≡ data_found b (find_occurrence b x o)
  occurrence_kept o = rw (occurrence_same b b' (wider_parts k b b' w) x o) (go (find_occurrence b x o) refl)
    where
      go : (f : Option ℕ) → find_occurrence b x o ≡ f → data_found b' f ≡ data_found b f
      go None e = refl
      go (Some i) e = let n = occurrence_told b x o i e in w.others i n.listed (λ q. other (sym n.named ∙ q))

  pub data_kept : data_named b' x ≡ data_named b x
  unfolding data_named
  data_kept = rw (← first_occurrence b' x, ← first_occurrence b x) (occurrence_kept 0)

  pub report_kept : (judge : List ℕ → Verdict) → container_judged k b ≡ Accepted → size_of k ≤ u32_at (psv_of b) 0
      → reported judge x k b' ≡ reported judge x k b
  report_kept judge o long =
      reported_open judge x k b' (widening_kept k b b' o long w).opens
      ∙ rw (find_same b b' (wider_parts k b b' w) x, data_kept) (sym (reported_open judge x k b o))

-- ---- the steps of the code: r is what the query for the part answers, and p the part
module _ (k : ℕ) (b : List ℕ) (x : ℕ) {r : Result Part Refusal} (hr : r ≡ container_part k b x) {p : Part} (h : r ≡ Ok p) where
  first_part : part_at b (find b x) ≡ Ok p
  first_part = ap (part_at b) (sym (first_occurrence b x)) ∙ shown_part k b x 0 hr h

  pub starts_at : p.offset + 8 ≡ start_found b (find b x)
  starts_at = go (find b x) first_part
    where
      go : (f : Option ℕ) → part_at b f ≡ Ok p → p.offset + 8 ≡ start_found b f
      go (Some i) e = let q : p ≡ record { number = i; offset = offset_at b i; size = size_at b i } = cc in ap (λ (u : Part). u.offset + 8) q
      go None e = ok_err e

-- the data that the query for the part hands out, where the container opens
pub opened_data : (k : ℕ) (b : List ℕ) (x : ℕ) → container_judged k b ≡ Accepted → part_data_of k b x ≡ data_named b x
unfolding occurrence_data_of data_named container_occurrence
opened_data k b x o = rw (o, first_occurrence b x) (go (find b x))
  where
    go : (f : Option ℕ) → data_if (part_at b f) b ≡ data_found b f
    go (Some i) = refl
    go None = refl

pub data_there : (k : ℕ) (b : List ℕ) (x : ℕ) {r : Result Part Refusal} → r ≡ container_part k b x → {p : Part} → r ≡ Ok p
    → take (p.offset + 8 + p.size - (p.offset + 8)) (drop (p.offset + 8) b) ≡ data_named b x
data_there k b x hr h = part_data k b x 0 hr h ∙ opened_data k b x (opens k b x 0 hr h)

part_verdict : (v : Verdict) (b : List ℕ) (x : ℕ) → verdict_of (part_if v b x 0) ≡ (v then check (is_there (find b x)) 26 0)
unfolding ◌then◌ check verdict_of
part_verdict (Refused n p) b x = refl
part_verdict Accepted b x = rw (first_occurrence b x) (go (find b x))
  where
    go : (f : Option ℕ) → verdict_of (part_at b f) ≡ check (is_there f) 26 0
    go (Some i) = refl
    go None = refl

regroup : (a c v : Verdict) → (a then c then v) ≡ ((a then c) then v)
unfolding ◌then◌
regroup Accepted c v = refl
regroup (Refused n p) c v = refl

module _ (judge : List ℕ → Verdict) (k : ℕ) (b : List ℕ) (x : ℕ) {r : Result Part Refusal} (hr : r ≡ container_part k b x) where
  reported_is : reported judge x k b ≡ (verdict_of r then judge (data_named b x))
  unfolding reported container_occurrence
  reported_is = rw (hr, part_verdict (container_judged k b) b x) (regroup (container_judged k b) _ _)

  pub no_report : {q : Refusal} → r ≡ Err q → Refused q.number q.place ≡ reported judge x k b
  unfolding verdict_of
  no_report h = stop_then (verdict_of r) (judge (data_named b x)) _ _ (ap verdict_of h) ∙ sym reported_is

  -- what `?` returns of a part that is refused
  pub part_passed : {B : Type 0} (y : B) {w : Result B Refusal} {q : Refusal} → IsErr w × IsErrAnd w (λ (s : Refusal). s ≡ q) → r ≡ Err q
      → w ≡ under (reported judge x k b) y
  part_passed y h e = refuses _ _ (passed_err _ h) (no_report e)

  pub data_reported : {p : Part} → r ≡ Ok p → judge (data_named b x) ≡ reported judge x k b
  unfolding ◌then◌ verdict_of
  data_reported h = sym (reported_is ∙ rw h)

-- ---- a report that accepts: the part's data are accepted, lie inside the container and are its bytes there
module _ (judge : List ℕ → Verdict) (x : ℕ) (k : ℕ) (b : List ℕ) (a : reported judge x k b ≡ Accepted) where
  there_judged : (is_there (find b x) ≡ true) × (judge (data_named b x) ≡ Accepted)
  there_judged = check_then _ _ _ _ (sym (reported_open judge x k b (reported_opens judge x k b a)) ∙ a)

  pub reported_judged : judge (data_named b x) ≡ Accepted
  reported_judged = there_judged.1

  part_there : (p : Part) × (container_part k b x ≡ Ok p)
  unfolding container_occurrence
  part_there = rw (reported_opens judge x k b a, first_occurrence b x) (go (find b x) there_judged.0)
    where
      go : (f : Option ℕ) → is_there f ≡ true → (p : Part) × (part_at b f ≡ Ok p)
      go (Some i) t = (record { number = i; offset = offset_at b i; size = size_at b i }, refl)
      go None t = absurd (true≢false (sym t))

  module _ {p : Part} (h : container_part k b x ≡ Ok p) where
    data_is : take p.size (drop (p.offset + 8) b) ≡ data_named b x
    data_is =
        let z : p.offset + 8 + p.size - (p.offset + 8) ≡ p.size = omega arith in
        rw z at (data_there k b x refl h)

    pub reported_size : length (data_named b x) ≡ p.size
    reported_size =
        rw (← data_is) (length-take-le _ _ (let f = part_fits k b x 0 refl h in rw length-drop (omega arith)))

    inside_at : start_found b (find b x) + length (data_named b x) ≤ length b
    inside_at = rw (← (starts_at k b x refl h), reported_size) (part_fits k b x 0 refl h)

    bytes_at : take (length (data_named b x)) (drop (start_found b (find b x)) b) ≡ data_named b x
    bytes_at = rw (← (starts_at k b x refl h), reported_size) data_is

  pub reported_inside : start_found b (find b x) + length (data_named b x) ≤ length b
  reported_inside = inside_at part_there.1

  pub reported_bytes : take (length (data_named b x)) (drop (start_found b (find b x)) b) ≡ data_named b x
  reported_bytes = bytes_at part_there.1

  -- a part of the data is as long a part of the container
  pub reported_part : (o n : ℕ) → o + n ≤ length (data_named b x)
      → take n (drop (start_found b (find b x) + o) b) ≡ take n (drop o (data_named b x))
  reported_part o n h = sym (part_part b (start_found b (find b x)) (length (data_named b x)) o n h) ∙ rw reported_bytes
