-- The table of a reading, step by step.
-- Assumes nothing.
use Prim.Native.Nat.{ℕ, ◌+◌, ◌≤◌}
use mathlib.Core.Path.{◌≡◌, refl, ◌∙◌, ap}
use mathlib.Core.Bool.{Bool}
use mathlib.Core.List.{List}
use native.Mathlib.Numerals.{add-one}
use native.Mathlib.Omega.{arith}
use lib.ListN.{set}
use Rattle.std.specs.Prelude.{Ok}
use Rattle.wire.specs.Verdict.{Verdict, Accepted, Refused, under}
use Rattle.wire.proofs.Verdicts.{then_accepted, each_accepted, stop_then, pass_then}
use Rattle.part_table_layout.specs.Table.{count_of, offset_at, name_at, size_at, occurrence_at, gap_at, header_judged, parts_judged, table_judged, filled, refused_table, table_if, table_with}
use Rattle.part_table_layout.specs.declared.Table.{Table}
use Rattle.part_table_layout.proofs.Accepted.{name_told}
use Rattle.part_table_layout.proofs.Filled.{filled_agree}
use Rattle.part_table_layout.proofs.Judged.{Walked}
use Rattle.part_table_layout.proofs.Occurrences.{counted_at, counted_is}

-- the table with the entries of the first i parts, whose occurrences come from a counter
abbrev pub table_to : Bool → ℕ → List ℕ → ℕ → Table
table_to c m b i =
    record {
      verdict = Ok tt;
      count = count_of b;
      counted = c;
      pairs = m;
      names = filled (name_at b) i;
      offsets = filled (offset_at b) i;
      sizes = filled (size_at b) i;
      occurrences = filled (counted_at (name_at b)) i;
      gaps = filled (gap_at b) i;
    }

module _ (c : Bool) (m : ℕ) (b : List ℕ) {t : Table} (i : ℕ) (ht : t ≡ table_to c m b i) where
  pub entry_more : {x s z o g : ℕ} → x ≡ name_at b i → s ≡ offset_at b i → z ≡ size_at b i → o ≡ counted_at (name_at b) i → g ≡ gap_at b i
      → record {
        verdict = t.verdict;
        count = t.count;
        counted = t.counted;
        pairs = t.pairs;
        names = set t.names i x;
        offsets = set t.offsets i s;
        sizes = set t.sizes i z;
        occurrences = set t.occurrences i o;
        gaps = set t.gaps i g;
      }
      ≡ table_to c m b (i + 1)
  entry_more hx hs hz ho hg = rw (ht, hx, hs, hz, ho, hg, add-one)

verdict_if : (c : Bool) (m : ℕ) (v : Verdict) (b : List ℕ) → (table_if c m v b).verdict ≡ under v tt
unfolding under
verdict_if c m Accepted b = refl
verdict_if c m (Refused n p) b = refl

-- ---- what is shown under the verdict of 8 and 9, with m pairs
module _ (c : Bool) {m q : ℕ} (hm : m ≡ q) (b : List ℕ) where
  pub none_shown : {n p : ℕ} → parts_judged b ≡ Refused n p → refused_table c m (Refused n p) ≡ table_if c q (parts_judged b) b
  none_shown e = rw (e, hm)

  -- once 9 has passed, what the counter gave are the occurrences
  counted : parts_judged b ≡ Accepted → filled (counted_at (name_at b)) (count_of b) ≡ filled (occurrence_at (name_at b)) (count_of b)
  unfolding parts_judged
  counted e =
      let names = (then_accepted _ _ e).1 in
      filled_agree _ _ (count_of b) (λ k l. counted_is (name_at b) k (name_told (name_at b) k (each_accepted _ _ k names l)))

  pub all_shown : parts_judged b ≡ Accepted → {n i end : ℕ} → n ≡ count_of b → Walked b n i end → n ≤ i
      → {d : ℕ} {t : Table} → t ≡ table_to c d b i
      → record {
        verdict = t.verdict;
        count = t.count;
        counted = t.counted;
        pairs = m;
        names = t.names;
        offsets = t.offsets;
        sizes = t.sizes;
        occurrences = t.occurrences;
        gaps = t.gaps;
      }
      ≡ table_if c q (parts_judged b) b
  all_shown e {n} {i} hn w g ht =
      let last : i ≡ count_of b = omega (arith, w.within) in
      rw (ht, last, counted e, e, hm)

-- 1 to 7, then the parts
module _ (c : Bool) {m q : ℕ} (hm : m ≡ q) (b : List ℕ) where
  pub header_refused : {n p : ℕ} → header_judged b ≡ Refused n p → refused_table c m (Refused n p) ≡ table_with c q b
  unfolding table_with table_judged
  header_refused h = let r = stop_then (header_judged b) (parts_judged b) _ _ h in rw (← r, hm)

  pub header_accepted : header_judged b ≡ Accepted → table_if c m (parts_judged b) b ≡ table_with c q b
  unfolding table_with table_judged
  header_accepted h = rw hm (ap (λ (w : Verdict). table_if c q w b) (pass_then (header_judged b) (parts_judged b) _ h refl))

-- the verdict that a table shows is that of 1 to 9
pub verdict_shown : (c : Bool) (m : ℕ) (b : List ℕ) {t : Table} → t ≡ table_with c m b → t.verdict ≡ under (table_judged b) tt
unfolding table_with
verdict_shown c m b h = ap (λ (t : Table). t.verdict) h ∙ verdict_if c m (table_judged b) b
