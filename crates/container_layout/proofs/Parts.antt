-- One part of a container that opens: where it lies, and its data.
-- Assumes nothing.
use Rattle.std.specs.Prelude.{Some, Result, Ok, Err}
use Prim.Native.Nat.{ℕ, ◌+◌, ◌-◌, ◌≤◌}
use mathlib.Core.Path.{◌≡◌, sym, ◌∙◌, ap}
use mathlib.Core.List.{List, []}
use native.Mathlib.Omega.{arith}
use lib.ListN.{length, take, drop}
use Rattle.wire.specs.declared.Refusal.{Refusal}
use Rattle.wire.specs.Verdict.{Accepted}
use Rattle.part_table_layout.specs.Lookup.{find_occurrence, part_at, part_if, later_part}
use Rattle.part_table_layout.specs.Table.{offset_at, size_at, data_at, table_judged}
use Rattle.part_table_layout.specs.declared.Part.{Part}
use Rattle.part_table_layout.proofs.Accepted.{accepted_told, part_inside}
use Rattle.part_table_layout.proofs.Lookups.{accepted_if, found_if, occurrence_told, later_is}
use Rattle.container_layout.specs.Container.{container_judged, container_occurrence, occurrence_data_of}
use Rattle.container_layout.proofs.Containers.{before_told, opened_told}

-- the part with an occurrence, where r is the first with the name
pub later_part_lem : (k : ℕ) (b : List ℕ) (x o : ℕ) {r : Result Part Refusal} → r ≡ container_occurrence k b x 0 → later_part b x o r ≡ container_occurrence k b x o
unfolding container_occurrence
later_part_lem k b x o h =
    rw h (later_is (container_judged k b) b x o (λ a. (accepted_told b (before_told k b (opened_told k b a).0).table).header.few))

-- r is what the query answers, and p the part
module _ (k : ℕ) (b : List ℕ) (x o : ℕ) {r : Result Part Refusal} (hr : r ≡ container_occurrence k b x o) where
  pub no_data : {q : Refusal} → r ≡ Err q → [] ≡ occurrence_data_of k b x o
  unfolding occurrence_data_of
  no_data h = let e = rw hr at h in rw e

  module _ {p : Part} (h : r ≡ Ok p) where
    ok : container_occurrence k b x o ≡ Ok p
    ok = sym hr ∙ h

    pub opens : container_judged k b ≡ Accepted
    unfolding container_occurrence
    opens = accepted_if (container_judged k b) b x o ok

    pub shown_part : part_at b (find_occurrence b x o) ≡ Ok p
    unfolding container_occurrence
    shown_part =
        let a = opens in
        let e : part_if (container_judged k b) b x o ≡ part_at b (find_occurrence b x o) = rw a in
        sym e ∙ ok

    found_number : find_occurrence b x o ≡ Some p.number
    found_number = found_if b (find_occurrence b x o) shown_part

    entry : p ≡ record { number = p.number; offset = offset_at b p.number; size = size_at b p.number }
    entry =
        let e : ◌≡◌ {A = Result Part Refusal} (Ok p) (Ok (record { number = p.number; offset = offset_at b p.number; size = size_at b p.number })) =
        sym shown_part ∙ ap (part_at b) found_number in
        cc

    table : table_judged b ≡ Accepted
    table = (before_told k b (opened_told k b opens).0).table

    pub part_fits : p.offset + 8 + p.size ≤ length b
    part_fits = rw entry (part_inside b table p.number (occurrence_told b x o p.number found_number).listed)

    pub part_short : p.offset + 8 + p.size ≤ 16777216
    part_short = let l = part_fits in let s = (accepted_told b table).header.short in omega arith

    pub part_data : take (p.offset + 8 + p.size - (p.offset + 8)) (drop (p.offset + 8) b) ≡ occurrence_data_of k b x o
    unfolding occurrence_data_of data_at
    part_data =
        let z : p.offset + 8 + p.size - (p.offset + 8) ≡ p.size = omega arith in
        let g = ok in
        rw (z, g, ← ap (λ (q : Part). q.offset) entry, ← ap (λ (q : Part). q.size) entry)
