-- Three parts by their names, step by step.
-- Assumes nothing.
use Rattle.std.specs.Prelude.{None, Option, Some, Result, Ok, Err}
use Prim.Native.Nat.{ℕ, ◌+◌, ◌*◌, ◌≤◌}
use mathlib.Core.Path.{◌≡◌, refl, sym, ◌∙◌, ap}
use mathlib.Core.List.{List}
use lib.ListN.{set}
use Rattle.wire.specs.Number.{u32_at}
use Rattle.wire.specs.Verdict.{verdict_of, Verdict, Accepted, Refused}
use Rattle.wire.specs.declared.Refusal.{Refusal}
use Rattle.wire.proofs.Verdicts.{stop_then, pass_then, verdict_is, accepted_by, refused_by, value_by}
use Rattle.part_table_layout.specs.Lookup.{occurrence_named, occurrence_in, find_occurrence, refused, part_at, occurrence_of, part_of}
use Rattle.part_table_layout.specs.Table.{count_of, offset_at, name_at, size_at, header_judged, parts_judged, table_judged, filled}
use Rattle.part_table_layout.specs.Three.{three_shown, three_if, three_of}
use Rattle.part_table_layout.specs.declared.Part.{Part}
use Rattle.part_table_layout.specs.declared.ThreeParts.{ThreeParts}
use Rattle.part_table_layout.proofs.Filled.{filled_more}
use Rattle.part_table_layout.proofs.Lookups.{occurrence_in_filled, part_refused}

-- ---- a part by its name and occurrence, among n names that were read
module _ (b names : List ℕ) (n x o : ℕ) (l : n ≤ 96) (h : names ≡ filled (name_at b) n) {f : Option ℕ} (hf : f ≡ occurrence_in names n x o) where
  found_is : f ≡ occurrence_named (name_at b) n x o
  found_is = hf ∙ rw h (occurrence_in_filled (name_at b) n x o l)

  pub listed_nowhere : f ≡ None → refused 26 0 ≡ part_at b (occurrence_named (name_at b) n x o)
  listed_nowhere e = rw (← found_is, e)

  pub listed_there : {k s z : ℕ} → f ≡ Some k → s ≡ u32_at b (32 + 4 * k) → z ≡ u32_at b (s + 4)
      → Ok (record { number = k; offset = s; size = z }) ≡ part_at b (occurrence_named (name_at b) n x o)
  unfolding offset_at size_at
  listed_there e hs hz = rw (← found_is, e, hz, hs)

-- all the parts count
pub all_listed : (b : List ℕ) {n : ℕ} (x : ℕ) → n ≡ count_of b → {p : Result Part Refusal} → p ≡ part_at b (occurrence_named (name_at b) n x 0)
    → p ≡ part_at b (find_occurrence b x 0)
unfolding find_occurrence
all_listed b x hn h = rw hn at h

-- ---- the names, as they are read
pub name_more : (b : List ℕ) {names : List ℕ} (i : ℕ) {x : ℕ} → names ≡ filled (name_at b) i → x ≡ name_at b i → set names i x ≡ filled (name_at b) (i + 1)
name_more b i h hx = rw h (filled_more (name_at b) i hx)

-- ---- 1 to 7, then the parts
module _ (b : List ℕ) where
  pub header_refuses : {n p : ℕ} → header_judged b ≡ Refused n p → Refused n p ≡ table_judged b
  unfolding table_judged
  header_refuses e = stop_then (header_judged b) (parts_judged b) _ _ e

  pub header_passes : (x y z : ℕ) → header_judged b ≡ Accepted → three_if (parts_judged b) b x y z ≡ three_of b x y z
  unfolding three_of table_judged
  header_passes x y z e = ap (λ (w : Verdict). three_if w b x y z) (pass_then (header_judged b) (parts_judged b) _ e refl)

-- ---- what the parts are
module _ (b : List ℕ) (x y z : ℕ) {w : Result ThreeParts Refusal} (hw : w ≡ three_of b x y z) where
  pub three_verdict : verdict_of w ≡ table_judged b
  unfolding three_of
  three_verdict = verdict_is _ _ hw

  -- a refusal is that of 1 to 9, and so that of a lookup
  pub three_refused : {r : Refusal} → w ≡ Err r → table_judged b ≡ Refused r.number r.place
  unfolding three_of
  three_refused e = refused_by _ _ hw e

  pub first_refused : {r : Refusal} → w ≡ Err r → Err r ≡ part_of b x
  first_refused e = sym (part_refused b x 0 (three_refused e))

  module _ {t : ThreeParts} (e : w ≡ Ok t) where
    pub three_accepted : table_judged b ≡ Accepted
    unfolding three_of
    three_accepted = accepted_by _ _ hw e

    shown : t ≡ three_shown b x y z
    unfolding three_of
    shown = value_by _ _ hw e

    pub three_first : t.first ≡ part_of b x
    unfolding occurrence_of
    three_first = let a = three_accepted in ap (λ (u : ThreeParts). u.first) shown ∙ rw a

    pub three_second : t.second ≡ part_of b y
    unfolding occurrence_of
    three_second = let a = three_accepted in ap (λ (u : ThreeParts). u.second) shown ∙ rw a

    pub three_third : t.third ≡ part_of b z
    unfolding occurrence_of
    three_third = let a = three_accepted in ap (λ (u : ThreeParts). u.third) shown ∙ rw a

    pub three_count : t.count ≡ count_of b
    three_count = ap (λ (u : ThreeParts). u.count) shown
