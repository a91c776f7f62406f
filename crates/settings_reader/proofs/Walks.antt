-- The loop over the rows, and what is told of the whole file.
-- Assumes nothing.
use Rattle.std.specs.Prelude.{None, Option, Some, Result, Ok, Err}
use Prim.Native.Nat.{ℕ, zero, suc, ◌+◌, ◌-◌, ◌<◌, ◌≤◌}
use mathlib.Core.Path.{◌≡◌, refl, sym, ◌∙◌, ap}
use mathlib.Core.Bool.{Bool, true, false}
use mathlib.Core.List.{List, [], ◌∷◌}
use mathlib.Core.Logic.{◌⊎◌, inl, inr}
use native.Mathlib.Nat.{zero-add}
use native.Mathlib.Numerals.{add-one}
use native.Mathlib.Omega.{arith}
use lib.Dec.{eqb, ltb}
use lib.ListN.{length, drop, get_or, length-drop}
use lib.Seq.{drop-drop}
use borrow.Author.Tests.{le-leb, lt-leb, eq-eqb, ne_eqb, ltb-true, ltb-false}
use Rattle.wire.specs.Choice.{choose}
use Rattle.wire.specs.Verdict.{◌then◌, check, under, Accepted, Refused}
use Rattle.wire.specs.declared.Refusal.{Refusal}
use Rattle.wire.proofs.Verdicts.{accepted_by, value_by}
use Rattle.settings_layout.specs.File.{number_judged, number_shown, row_of, row_size, row_end, row_judged, rows_judged, rows_from, judged, rows_of}
use Rattle.settings_layout.specs.Groups.{value_of, after}
use Rattle.settings_layout.specs.Rules.{no_row, tells, latest, setting_at}
use Rattle.settings_layout.specs.Shown.{settings_shown, settings_of, row_answer_of, setting_answer_of, alone_shown}
use Rattle.settings_layout.specs.declared.Number.{Number}
use Rattle.settings_layout.specs.declared.Row.{Row}
use Rattle.settings_layout.specs.declared.RowAlone.{RowAlone}
use Rattle.settings_layout.proofs.Read.{row_told, row_end_lem, row_inside}
use Rattle.settings_layout.proofs.RoundTrips.{row_count}
use Rattle.settings_reader.specs.Walk.{row_from, walked_by, walked_of}
use Rattle.settings_reader.specs.declared.Walked.{Walked}

-- ---- a row that doesn't tell of a key at a version
pub untold : (k v : ℕ) (r : Row) → ((r.key ≡ k) × (v < r.version)) ⊎ (r.key ≡ k → ⊥) → tells k v r ≡ false
unfolding tells
untold k v r (inl (e, h)) = rw (eq-eqb r.key k e, lt-leb r.version v h)
untold k v r (inr n) = rw (ne_eqb r.key k n)

-- ---- row i, picked on the way
passed : (i j : ℕ) (r : Option Row) (l : List Row) → i < j → row_from i j r l ≡ r
unfolding row_from
passed i j r [] h = refl
passed i j r (x ∷ l) h = passed i (suc j) _ l (omega arith) ∙ rw (ne_eqb j i (omega arith))

further_on : (j n : ℕ) (r : Option Row) (x : Row) (l : List Row) → row_from (j + suc n) j r (x ∷ l) ≡ row_from (suc j + n) (suc j) r l
unfolding row_from
further_on j n r x l =
    let e : j + suc n ≡ suc j + n = omega arith in
    rw (ne_eqb j (j + suc n) (omega arith)) (ap (λ (m : ℕ). row_from m (suc j) r l) e)

picked : (n j : ℕ) (r : Option Row) (l : List Row) (z : Row) → n < length l → row_from (j + n) j r l ≡ Some (get_or l n z)
unfolding row_from
picked n j r [] z h = absurd (omega arith)
picked zero j r (x ∷ l) z h =
    let e : j ≡ j + 0 = omega arith in
    passed (j + 0) (suc j) _ l (omega arith) ∙ rw (eq-eqb j (j + 0) e)
picked (suc n) j r (x ∷ l) z h = further_on j n r x l ∙ picked n (suc j) r l z (omega arith)

missed : (n j : ℕ) (r : Option Row) (l : List Row) → length l ≤ n → row_from (j + n) j r l ≡ r
unfolding row_from
missed n j r [] h = refl
missed zero j r (x ∷ l) h = absurd (omega arith)
missed (suc n) j r (x ∷ l) h = further_on j n r x l ∙ missed n (suc j) r l (omega arith)

pub row_picked : (i : ℕ) (l : List Row) → i < length l → row_from i 0 None l ≡ Some (get_or l i no_row)
row_picked i l h = ap (λ (n : ℕ). row_from n 0 None l) (sym (zero-add i)) ∙ picked i 0 None l no_row h

pub row_missed : (i : ℕ) (l : List Row) → length l ≤ i → row_from i 0 None l ≡ None
row_missed i l h = ap (λ (n : ℕ). row_from n 0 None l) (sym (zero-add i)) ∙ missed i 0 None l h

-- ---- the loop has passed some rows and come to the place at, after a row of version last
pub record Walking (d : List ℕ) (count from key version i passed last at : ℕ) (setting : Option ℕ) (kept : Option Row) : Type 0 where
  pub within : at ≤ length d
  pub verdict : rows_judged count 0 from (drop from d) ≡ rows_judged (count - passed) last at (drop at d)
  pub told : latest key version None (rows_from count (drop from d)) ≡ latest key version setting (rows_from (count - passed) (drop at d))
  pub row : row_from i 0 None (rows_from count (drop from d)) ≡ row_from i passed kept (rows_from (count - passed) (drop at d))

pub walk_begin : (d : List ℕ) (count from key version i : ℕ) → from ≤ length d → Walking d count from key version i 0 0 from None None
walk_begin d count from key version i h =
    let e : count - 0 ≡ count = omega arith in
    record { within = h; verdict = rw e; told = rw e; row = rw e }

more_rows : (w p : ℕ) (l : List ℕ) (n m : ℕ) → n ≡ suc m → rows_judged n w p l ≡ (row_judged w p l then rows_judged m (value_of l) (p + row_size l) (row_end l))
unfolding rows_judged
more_rows w p l n m e = rw e

rows_more : (l : List ℕ) (n m : ℕ) → n ≡ suc m → rows_from n l ≡ row_of l ∷ rows_from m (row_end l)
unfolding rows_from
rows_more l n m e = rw e

-- a row that is accepted, and what it shows
got_passed : (d : List ℕ) (p w : ℕ) (g : RowAlone) → row_judged w p (drop p d) ≡ Accepted → g ≡ alone_shown p (drop p d) → (m : ℕ) → row_end (drop p d) ≡ drop g.end d
    → (row_judged w p (drop p d) then rows_judged m (value_of (drop p d)) (p + row_size (drop p d)) (row_end (drop p d)))
    ≡ rows_judged m g.row.version g.end (drop g.end d)
unfolding ◌then◌ row_of
got_passed d p w g a t m e = rw (a, e) (rw t)

setting_more : (k v : ℕ) (s : Option ℕ) (r : Row) (l : List Row) → latest k v s (r ∷ l) ≡ latest k v (choose (tells k v r) (Some r.value) s) l
unfolding latest
setting_more k v s r l = refl

row_more : (i j : ℕ) (r : Option Row) (x : Row) (l : List Row) → row_from i j r (x ∷ l) ≡ row_from i (suc j) (choose (eqb j i) (Some x) r) l
unfolding row_from
row_more i j r x l = refl

module _ {d : List ℕ} {count from key version i passed last at : ℕ} {setting : Option ℕ} {kept : Option Row}
    (w : Walking d count from key version i passed last at setting kept) where
  module _ (h : passed < count) where
    left : count - passed ≡ suc (count - (passed + 1))
    left = omega arith

    pub walk_stop : (n p : ℕ) → row_judged last at (drop at d) ≡ Refused n p → rows_judged count 0 from (drop from d) ≡ Refused n p
    unfolding ◌then◌
    walk_stop n p e = rw (w.verdict, more_rows last at (drop at d) (count - passed) _ left, e)

    pub walk_more : row_judged last at (drop at d) ≡ Accepted → {g : RowAlone} → g ≡ alone_shown at (drop at d) → {s : Option ℕ} {r : Option Row}
        → s ≡ choose (tells key version g.row) (Some g.row.value) setting → r ≡ choose (eqb passed i) (Some g.row) kept
        → Walking d count from key version i (passed + 1) g.row.version g.end s r
    walk_more a {g} t {s} {r} f k =
        let o = row_inside last at (drop at d) (row_told last at (drop at d) a) in
        let e : g.end ≡ at + row_size (drop at d) = ap (λ (x : RowAlone). x.end) t in
        let ends : row_end (drop at d) ≡ drop g.end d = row_end_lem (drop at d) ∙ drop-drop _ at d ∙ ap (λ (n : ℕ). drop n d) (sym e) in
        let rows : rows_from (count - passed) (drop at d) ≡ g.row ∷ rows_from (count - (passed + 1)) (drop g.end d) =
        rows_more (drop at d) (count - passed) _ left ∙ rw ends (rw t) in
        let p : passed + 1 ≡ suc passed = add-one passed in
        record {
          within = omega (arith, length-drop at d, w.within);
          verdict = w.verdict ∙ more_rows last at (drop at d) (count - passed) _ left ∙ got_passed d at last g a t _ ends;
          told = w.told ∙ ap (latest key version setting) rows ∙ setting_more key version setting g.row _ ∙ rw f;
          row = w.row ∙ ap (row_from i passed kept) rows ∙ row_more i passed kept g.row _ ∙ rw (k, p);
        }

  module _ (h : count ≤ passed) where
    none : count - passed ≡ 0
    none = omega arith

    pub walk_over : at < length d → Refused 60 at ≡ rows_judged count 0 from (drop from d)
    unfolding rows_judged check
    walk_over g = rw (w.verdict, none, ne_eqb (length (drop at d)) 0 (λ q. omega (arith, length-drop at d)))

    pub walk_done : length d ≤ at → Accepted ≡ rows_judged count 0 from (drop from d)
    unfolding rows_judged check
    walk_done g = rw (w.verdict, none, eq-eqb (length (drop at d)) 0 (omega (arith, length-drop at d)))

    pub walk_setting : setting ≡ latest key version None (rows_from count (drop from d))
    unfolding rows_from latest
    walk_setting = rw (w.told, none)

    pub walk_row : kept ≡ row_from i 0 None (rows_from count (drop from d))
    unfolding rows_from row_from
    walk_row = rw (w.row, none)

-- ---- a whole file
module _ (d : List ℕ) where
  pub no_count : (n p : ℕ) → number_judged 0 d ≡ Refused n p → judged d ≡ Refused n p
  unfolding judged ◌then◌
  no_count n p e = rw e

  module _ (a : number_judged 0 d ≡ Accepted) {c : Number} (e : c ≡ number_shown d) where
    pub many_rows : 512 < c.value → Refused 56 0 ≡ judged d
    unfolding judged check ◌then◌
    many_rows h = rw (a, lt-leb (value_of d) 512 (rw e at h))

    pub few_rows : c.value ≤ 512 → rows_judged c.value 0 c.size (drop c.size d) ≡ judged d
    unfolding judged check ◌then◌ after
    few_rows h = rw (a, le-leb (value_of d) 512 (rw e at h)) (rw e)

    pub all_walked : (k v i : ℕ) → walked_by (record { rows = c.value; first = c.size }) k v i (rows_from c.value (drop c.size d)) ≡ walked_by (settings_shown d) k v i (rows_of d)
    unfolding rows_of after
    all_walked k v i = rw e

-- ---- the answers
count_is : (d : List ℕ) → length (rows_of d) ≡ value_of d
unfolding rows_of
count_is d = row_count (value_of d) (after d)

pub row_refused : (d : List ℕ) (i n p : ℕ) → judged d ≡ Refused n p → (judged d then check (ltb i (value_of d)) 26 0) ≡ Refused n p
unfolding ◌then◌
row_refused d i n p e = rw e

module _ (d : List ℕ) (k v i : ℕ) {a : Result Walked Refusal} (e : a ≡ walked_of d k v i) where
  module _ {w : Walked} (q : a ≡ Ok w) where
    accepted : judged d ≡ Accepted
    unfolding walked_of
    accepted = accepted_by _ _ e q

    shown : w ≡ walked_by (settings_shown d) k v i (rows_of d)
    unfolding walked_of
    shown = value_by _ _ e q

    pub read_told : Ok w.settings ≡ settings_of d
    unfolding settings_of under
    read_told = rw (accepted, shown)

    pub setting_told : Ok w.setting ≡ setting_answer_of d k v
    unfolding setting_answer_of setting_at under
    setting_told = rw (accepted, shown)

    pub row_there : (r : Row) → w.row ≡ Some r → Ok r ≡ row_answer_of d i
    unfolding row_answer_of under check ◌then◌
    row_there r f = go (ltb i (value_of d)) refl
      where
        go : (t : Bool) → ltb i (value_of d) ≡ t → Ok r ≡ under (judged d then check t 26 0) (get_or (rows_of d) i no_row)
        go true h =
            let p : w.row ≡ Some (get_or (rows_of d) i no_row) = ap (λ (x : Walked). x.row) shown ∙ row_picked i _ (rw (count_is d) (ltb-true _ _ h)) in
            let s : r ≡ get_or (rows_of d) i no_row = cc in
            rw (accepted, s)
        go false h =
            let p : w.row ≡ None = ap (λ (x : Walked). x.row) shown ∙ row_missed i _ (rw (count_is d) (ltb-false _ _ h)) in
            cc

    pub row_none : w.row ≡ None → {q : Result Row Refusal} → q ≡ Err (record { number = 26; place = 0 }) → q ≡ row_answer_of d i
    unfolding row_answer_of under check ◌then◌
    row_none f {q} b = b ∙ go (ltb i (value_of d)) refl
      where
        go : (t : Bool) → ltb i (value_of d) ≡ t → Err (record { number = 26; place = 0 }) ≡ under (judged d then check t 26 0) (get_or (rows_of d) i no_row)
        go false h = rw accepted
        go true h =
            let p : w.row ≡ Some (get_or (rows_of d) i no_row) = ap (λ (x : Walked). x.row) shown ∙ row_picked i _ (rw (count_is d) (ltb-true _ _ h)) in
            cc
