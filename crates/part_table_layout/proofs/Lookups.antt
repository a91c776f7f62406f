-- What a lookup by name and occurrence gives, and its cases at a table that was read.
-- Assumes nothing.
use Rattle.std.specs.Prelude.{None, Option, Some, Result, Ok, Err, IsErr, IsErrAnd}
use Prim.Native.Nat.{ℕ, zero, suc, ◌+◌, ◌-◌, ◌≤◌, ◌<◌, min}
use mathlib.Core.Path.{◌≡◌, refl, sym, ◌∙◌, ap}
use mathlib.Core.Bool.{Bool, true, false}
use mathlib.Core.List.{List, []}
use mathlib.Core.Logic.{⊎_elim}
use native.Mathlib.Nat.{eq-or-lt_of_le}
use native.Mathlib.Omega.{arith}
use lib.Dec.{ltb}
use lib.ListN.{length, get_or, take, drop}
use borrow.Author.Tests.{lt-ltb, le-ltb, ltb-true, ltb-false}
use Rattle.wire.specs.Choice.{choose}
use Rattle.wire.specs.Search.{first}
use Rattle.wire.specs.declared.Refusal.{Refusal}
use Rattle.wire.specs.Verdict.{Verdict, Accepted, Refused, under, verdict_of}
use Rattle.part_table_layout.specs.Lookup.{first_named, occurrence_named, found_in, occurrence_in, find, find_occurrence, refused, entry_at, entry_if, part_in, part_at, part_if, occurrence_listed, later_if, later_part, occurrence_of, occurrence_data}
use Rattle.part_table_layout.specs.Table.{has_name, stood_earlier, may_repeat, borne, occurrence_at, count_of, offset_at, name_at, size_at, data_at, gap_at, filled, table_judged, accepted_table, table_if, table_with}
use Rattle.part_table_layout.specs.declared.Part.{Part}
use Rattle.part_table_layout.specs.declared.Table.{Table}
use Rattle.part_table_layout.proofs.Accepted.{accepted_told, part_inside}
use Rattle.part_table_layout.proofs.Filled.{filled_below}
use Rattle.part_table_layout.proofs.Occurrences.{at_told, nothing_told, First, first_told, first_named_lem, none_told, none_named, Occurs, occurs_told, occurs_is, too_great, great_told, first_occurs, occurrence_agree, Passing, pass_begin, pass_other, pass_one, pass_here, pass_nowhere, single}

-- ---- the search among a table's names, of which no more than 96 count
-- n is how many of count names count
pub record Capped (count n : ℕ) : Type 0 where
  pub cap : n ≡ choose (ltb count 96) count 96
  pub few : n ≤ 96

pub capped : {count n : ℕ} → n ≡ min count 96 → Capped count n
capped {count} {n} h = record { cap = go (ltb count 96) refl; few = omega arith }
  where
    go : (t : Bool) → ltb count 96 ≡ t → n ≡ choose t count 96
    go true e = let l = ltb-true count 96 e in omega arith
    go false e = let l = ltb-false count 96 e in omega arith

-- the loop has come to i: n is how many names count, and left names that are x are still to be passed
pub record Looked (names : List ℕ) (count x o n i left : ℕ) : Type 0 where
  pub capped : Capped count n
  pub passing : Passing (λ j. get_or names j 0) n x o i left

module _ (names : List ℕ) (count x o : ℕ) where
  pub look_begin : {n : ℕ} → Capped count n → Looked names count x o n 0 o
  look_begin {n} h = record { capped = h; passing = pass_begin _ n x o }

  module _ {n i left : ℕ} (l : Looked names count x o n i left) where
    pub look_on : i < n → (get_or names i 0 ≡ x → ⊥) → Looked names count x o n (i + 1) left
    look_on h e = record { capped = l.capped; passing = pass_other _ n x l.passing h e }

    pub look_past : i < n → get_or names i 0 ≡ x → (left ≡ 0 → ⊥) → {less : ℕ} → less ≡ left - 1 → Looked names count x o n (i + 1) less
    look_past h e some d = record { capped = l.capped; passing = pass_one _ n x l.passing h e some d }

    pub look_here : i < n → get_or names i 0 ≡ x → left ≡ 0 → Some i ≡ occurrence_in names count x o
    unfolding occurrence_in
    look_here h e z = rw (← l.capped.cap) (pass_here _ n x l.passing h e z)

    pub look_nowhere : n ≤ i → None ≡ occurrence_in names count x o
    unfolding occurrence_in
    look_nowhere h = rw (← l.capped.cap) (pass_nowhere _ n x l.passing h)

-- "without it the first part is meant"
pub first_in : (names : List ℕ) (n x : ℕ) → occurrence_in names n x 0 ≡ found_in names n x
unfolding occurrence_in found_in
first_in names n x = first_occurs (λ k. get_or names k 0) (choose (ltb n 96) n 96) x

cap_le : (n : ℕ) (s : Bool) → (s ≡ true → n < 96) → choose s n 96 ≤ 96
cap_le n true h = let l = h refl in omega arith
cap_le n false h = omega arith

few_is : (n : ℕ) → n ≤ 96 → choose (ltb n 96) n 96 ≡ n
few_is n h = ⊎_elim (λ e. rw e) (λ l. simp (lt-ltb n 96 l)) (eq-or-lt_of_le h)

-- names that were filled in are looked up as what they were filled from
pub occurrence_in_filled : (f : ℕ → ℕ) (n x o : ℕ) → n ≤ 96 → occurrence_in (filled f n) n x o ≡ occurrence_named f n x o
unfolding occurrence_in
occurrence_in_filled f n x o h = rw (few_is n h) (occurrence_agree _ f n x o (λ j l. filled_below f n j h l))

-- whether a name that was searched among the first n stood there
module _ (names : List ℕ) (n x : ℕ) (few : n ≤ 96) {f : Option ℕ} (h : f ≡ found_in names n x) where
  searched : f ≡ first_named (λ k. get_or names k 0) n x
  unfolding found_in
  searched = h ∙ rw (few_is n few)

  pub found_stood : {k : ℕ} → f ≡ Some k → true ≡ stood_earlier (λ k. get_or names k 0) x n
  found_stood {k} e =
      let t = at_told n (first (has_name (λ j. get_or names j 0) x) n) k _ refl (sym searched ∙ e) in
      sym (lt-ltb _ _ t.1)

  pub none_stood : f ≡ None → false ≡ stood_earlier (λ k. get_or names k 0) x n
  none_stood e =
      let t = nothing_told n (first (has_name (λ j. get_or names j 0) x) n) _ refl (sym searched ∙ e) in
      sym (le-ltb _ _ t)

-- the names of a table are looked up as those of its file
pub found_in_table : (b : List ℕ) (x o : ℕ) → count_of b ≤ 96 → occurrence_in (filled (name_at b) (count_of b)) (count_of b) x o ≡ find_occurrence b x o
unfolding find_occurrence
found_in_table b x o h = occurrence_in_filled (name_at b) (count_of b) x o h

-- ---- what a lookup tells
-- part k is the first of the container b with the name x; part k has the name x, and o earlier parts bear it
abbrev pub Named : List ℕ → ℕ → ℕ → Type 0
Named b x k = First (name_at b) (count_of b) x k

abbrev pub Numbered : List ℕ → ℕ → ℕ → ℕ → Type 0
Numbered b x o k = Occurs (name_at b) (count_of b) x o k

module _ (b : List ℕ) (x : ℕ) where
  pub find_told : (k : ℕ) → find b x ≡ Some k → Named b x k
  unfolding find
  find_told = first_told (name_at b) (count_of b) x

  pub find_is : (k : ℕ) → Named b x k → find b x ≡ Some k
  unfolding find
  find_is = first_named_lem (name_at b) (count_of b) x

  pub absent_told : find b x ≡ None → (k : ℕ) → k < count_of b → name_at b k ≡ x → ⊥
  unfolding find
  absent_told = none_told (name_at b) (count_of b) x

  pub absent_is : ((k : ℕ) → k < count_of b → name_at b k ≡ x → ⊥) → find b x ≡ None
  unfolding find
  absent_is = none_named (name_at b) (count_of b) x

  -- "without it the first part is meant"
  pub first_occurrence : find_occurrence b x 0 ≡ find b x
  unfolding find find_occurrence
  first_occurrence = first_occurs (name_at b) (count_of b) x

  module _ (o : ℕ) where
    pub occurrence_told : (k : ℕ) → find_occurrence b x o ≡ Some k → Numbered b x o k
    unfolding find_occurrence
    occurrence_told = occurs_told (name_at b) (count_of b) x o

    pub occurrence_is : (k : ℕ) → Numbered b x o k → find_occurrence b x o ≡ Some k
    unfolding find_occurrence
    occurrence_is = occurs_is (name_at b) (count_of b) x o

    -- there is none exactly where so many parts or fewer bear the name
    pub occurrence_absent : borne (name_at b) x (count_of b) ≤ o → find_occurrence b x o ≡ None
    unfolding find_occurrence
    occurrence_absent = too_great (name_at b) (count_of b) x o

    pub occurrence_too_great : find_occurrence b x o ≡ None → borne (name_at b) x (count_of b) ≤ o
    unfolding find_occurrence
    occurrence_too_great = great_told (name_at b) (count_of b) x o

-- every part of any bytes is found by its name and occurrence
pub found_by_occurrence : (b : List ℕ) (k : ℕ) → k < count_of b → find_occurrence b (name_at b k) (occurrence_at (name_at b) k) ≡ Some k
found_by_occurrence b k l = occurrence_is b (name_at b k) (occurrence_at (name_at b) k) k (record { listed = l; named = refl; earlier = refl })

-- in an accepted container every part whose name may not repeat is found by its name, and by no greater number
module _ (b : List ℕ) (h : table_judged b ≡ Accepted) where
  pub found_by_name : (k : ℕ) → k < count_of b → may_repeat (name_at b k) ≡ false → find b (name_at b k) ≡ Some k
  found_by_name k l r =
      find_is b (name_at b k) k (record { listed = l; named = refl; none_earlier = ((accepted_told b h).fresh k l).new r })

  pub found_alone : (x : ℕ) → may_repeat x ≡ false → (k : ℕ) → k < count_of b → name_at b k ≡ x → find b x ≡ Some k
  found_alone x r k l e = rw e at (found_by_name k l (rw e r))

  pub single_occurrence : (x o : ℕ) → may_repeat x ≡ false → find_occurrence b x (suc o) ≡ None
  single_occurrence x o r = go (find_occurrence b x (suc o)) refl
    where
      go : (f : Option ℕ) → find_occurrence b x (suc o) ≡ f → f ≡ None
      go None e = refl
      go (Some k) e =
          let t = occurrence_told b x (suc o) k e in
          let m = t.named in
          let q : occurrence_at (name_at b) k ≡ suc o = rw m t.earlier in
          let z = single (name_at b) k ((accepted_told b h).fresh k t.listed) (rw m r) in
          absurd (omega arith)

-- ---- the part with a name and an occurrence
pub part_refused : (b : List ℕ) (x o : ℕ) {n p : ℕ} → table_judged b ≡ Refused n p → occurrence_of b x o ≡ refused n p
unfolding occurrence_of
part_refused b x o h = rw h

module _ (b : List ℕ) (x o : ℕ) (h : table_judged b ≡ Accepted) where
  pub part_found : (k : ℕ) → find_occurrence b x o ≡ Some k → occurrence_of b x o ≡ Ok (record { number = k; offset = offset_at b k; size = size_at b k })
  unfolding occurrence_of
  part_found k e = rw (h, e)

  pub part_absent : find_occurrence b x o ≡ None → occurrence_of b x o ≡ refused 26 0
  unfolding occurrence_of
  part_absent e = rw (h, e)

  pub data_found_lem : (k : ℕ) → find_occurrence b x o ≡ Some k → occurrence_data b x o ≡ data_at b k
  unfolding occurrence_data
  data_found_lem k e = rw (part_found k e)

pub data_refused : (b : List ℕ) (x o : ℕ) {r : Refusal} → occurrence_of b x o ≡ Err r → occurrence_data b x o ≡ []
unfolding occurrence_data
data_refused b x o h = rw h

-- in an accepted container every part is shown by its name and occurrence, with its data
module _ (b : List ℕ) (h : table_judged b ≡ Accepted) (k : ℕ) (l : k < count_of b) where
  pub part_shown : occurrence_of b (name_at b k) (occurrence_at (name_at b) k) ≡ Ok (record { number = k; offset = offset_at b k; size = size_at b k })
  part_shown = part_found b _ _ h k (found_by_occurrence b k l)

  pub data_shown : occurrence_data b (name_at b k) (occurrence_at (name_at b) k) ≡ data_at b k
  data_shown = data_found_lem b _ _ h k (found_by_occurrence b k l)

-- a refusal is no value
pub ok_err : {A B E : Type 0} {x : A} {r : E} → ◌≡◌ {A = Result A E} (Err r) (Ok x) → B
ok_err e = absurd (let z : ◌≡◌ {A = ℕ} 0 1 = cc in omega arith)

pub accepted_if : (v : Verdict) (b : List ℕ) (x o : ℕ) {p : Part} → part_if v b x o ≡ Ok p → v ≡ Accepted
accepted_if Accepted b x o h = refl
accepted_if (Refused n p) b x o h = ok_err h

pub found_if : (b : List ℕ) (f : Option ℕ) {p : Part} → part_at b f ≡ Ok p → f ≡ Some p.number
found_if b (Some k) {p} h = let e : record { number = k; offset = offset_at b k; size = size_at b k } ≡ p = cc in ap (λ (q : Part). Some q.number) e
found_if b None h = ok_err h

-- a lookup that accepts: the table was accepted, and the part has the name and the occurrence
module _ (b : List ℕ) (x o : ℕ) {p : Part} (h : occurrence_of b x o ≡ Ok p) where
  pub lookup_accepted : table_judged b ≡ Accepted
  unfolding occurrence_of
  lookup_accepted = accepted_if (table_judged b) b x o h

  pub lookup_found : find_occurrence b x o ≡ Some p.number
  unfolding occurrence_of
  lookup_found =
      let a = lookup_accepted in
      let e : part_if (table_judged b) b x o ≡ part_at b (find_occurrence b x o) = rw a in
      found_if b (find_occurrence b x o) (rw e at h)

-- ---- the part with a name and an occurrence in a table t
-- what a search among the first 96 names finds is below 96
pub below_96 : (names : List ℕ) (n x o k : ℕ) → occurrence_in names n x o ≡ Some k → k < 96
unfolding occurrence_in
below_96 names n x o k h =
    let t = (occurs_told (λ j. get_or names j 0) (choose (ltb n 96) n 96) x o k h).listed in
    let l = cap_le n (ltb n 96) (ltb-true n 96) in
    omega (arith, t, l)

module _ (t : Table) (x o : ℕ) where
  pub in_refused : {r : Refusal} {q : Result Part Refusal} → IsErr q × IsErrAnd q (λ (s : Refusal). s ≡ r) → t.verdict ≡ Err r → q ≡ part_in t x o
  unfolding part_in verdict_of
  in_refused {r} {q} h e = go q h.1
    where
      go : (q : Result Part Refusal) → IsErrAnd q (λ (s : Refusal). s ≡ r) → q ≡ part_in t x o
      go (Ok z) k = absurd k
      go (Err s) k = rw (e, k)

  module _ (h : t.verdict ≡ Ok tt) {f : Option ℕ} (hf : f ≡ occurrence_in t.names t.count x o) where
    pub in_absent : f ≡ None → refused 26 0 ≡ part_in t x o
    unfolding part_in verdict_of
    in_absent e = let q = sym hf ∙ e in rw (h, q)

    pub in_found : {k : ℕ} → f ≡ Some k → Ok (record { number = k; offset = get_or t.offsets k 0; size = get_or t.sizes k 0 }) ≡ part_in t x o
    unfolding part_in verdict_of
    in_found e = let q = sym hf ∙ e in rw (h, q)

-- the table that was read of a file gives the file's parts
entry_is : (c : Bool) (m : ℕ) (b : List ℕ) → count_of b ≤ 96 → (f : Option ℕ) (x o : ℕ) → find_occurrence b x o ≡ f → entry_at (accepted_table c m b) f ≡ part_at b f
entry_is c m b few None x o h = refl
entry_is c m b few (Some k) x o h =
    let l = (occurrence_told b x o k h).listed in
    let e1 = filled_below (offset_at b) (count_of b) k few l in
    let e2 = filled_below (size_at b) (count_of b) k few l in
    rw (e1, e2)

pub part_in_file : (c : Bool) (m : ℕ) (b : List ℕ) (x o : ℕ) → part_in (table_with c m b) x o ≡ occurrence_of b x o
unfolding part_in table_with occurrence_of under verdict_of
part_in_file c m b x o = go (table_judged b) refl
  where
    go : (v : Verdict) → table_judged b ≡ v → entry_if (verdict_of (table_if c m v b).verdict) (table_if c m v b) x o ≡ part_if v b x o
    go (Refused n p) e = refl
    go Accepted e =
        let few = (accepted_told b e).header.few in
        rw (found_in_table b x o few) (entry_is c m b few (find_occurrence b x o) x o refl)

-- what the table that was read shows of part k beside its name, offset and size
module _ (c : Bool) (m : ℕ) (b : List ℕ) (h : table_judged b ≡ Accepted) (k : ℕ) (l : k < count_of b) where
  pub occurrence_entry : get_or (table_with c m b).occurrences k 0 ≡ occurrence_at (name_at b) k
  unfolding table_with
  occurrence_entry = let e = filled_below (occurrence_at (name_at b)) (count_of b) k (accepted_told b h).header.few l in rw h e

  pub gap_entry : get_or (table_with c m b).gaps k 0 ≡ gap_at b k
  unfolding table_with
  gap_entry = let e = filled_below (gap_at b) (count_of b) k (accepted_told b h).header.few l in rw h e

-- ---- the part with an occurrence, where the first part with the name was looked up
few_listed : (b : List ℕ) (x o : ℕ) → count_of b ≤ 96 → occurrence_listed b x o ≡ find_occurrence b x o
unfolding occurrence_listed find_occurrence
few_listed b x o h = rw (few_is (count_of b) h)

-- where no part has the name, none has it with an occurrence
none_later : (b : List ℕ) (x o : ℕ) → find_occurrence b x 0 ≡ None → find_occurrence b x o ≡ None
none_later b x o e = occurrence_absent b x o (let l = occurrence_too_great b x 0 e in omega arith)

pub later_is : (v : Verdict) (b : List ℕ) (x o : ℕ) → (v ≡ Accepted → count_of b ≤ 96) → later_part b x o (part_if v b x 0) ≡ part_if v b x o
unfolding later_part
later_is v b x zero h = refl
later_is (Refused n q) b x (suc o) h = refl
later_is Accepted b x (suc o) h = go (find_occurrence b x 0) refl
  where
    go : (f : Option ℕ) → find_occurrence b x 0 ≡ f → later_if (part_at b f) b x (suc o) ≡ part_at b (find_occurrence b x (suc o))
    go (Some k) e = rw (few_listed b x (suc o) (h refl))
    go None e = rw (none_later b x (suc o) e)

pub later_occurrence : (b : List ℕ) (x o : ℕ) {w : Result Part Refusal} → w ≡ occurrence_of b x 0 → later_part b x o w ≡ occurrence_of b x o
unfolding occurrence_of
later_occurrence b x o h = rw h (later_is (table_judged b) b x o (λ a. (accepted_told b a).header.few))

module _ (b : List ℕ) (x o : ℕ) (w : Result Part Refusal) where
  pub later_first : o ≡ 0 → w ≡ later_part b x o w
  unfolding later_part
  later_first e = rw e

  module _ (some : o ≡ 0 → ⊥) where
    later_if_lem : later_part b x o w ≡ later_if w b x o
    unfolding later_part
    later_if_lem = go o some
      where
        go : (m : ℕ) → (m ≡ 0 → ⊥) → later_part b x m w ≡ later_if w b x m
        go zero s = absurd (s refl)
        go (suc m) s = refl

    pub later_refused : {r : Refusal} → w ≡ Err r → Err r ≡ later_part b x o w
    later_refused h = sym (later_if_lem ∙ rw h)

    pub later_found : {p : Part} → w ≡ Ok p → part_at b (occurrence_listed b x o) ≡ later_part b x o w
    later_found h = sym (later_if_lem ∙ rw h)

-- what `?` returns beside a refusal
pub same_refusal : {B : Type 0} {r : Refusal} (q : Result B Refusal) → IsErr q × IsErrAnd q (λ (s : Refusal). s ≡ r) → q ≡ Err r
same_refusal (Ok z) h = absurd h.1
same_refusal (Err s) h = ap Err h.1

pub listed_is : (b : List ℕ) {m n : ℕ} → m ≡ count_of b → Capped m n → (x o : ℕ) → occurrence_named (name_at b) n x o ≡ occurrence_listed b x o
unfolding occurrence_listed
listed_is b hm h x o = rw (h.cap, hm)

-- ---- the data of a part that was looked up
module _ (b : List ℕ) (x o : ℕ) {w : Result Part Refusal} (hw : w ≡ occurrence_of b x o) where
  pub read_no_data : {r : Refusal} → w ≡ Err r → [] ≡ occurrence_data b x o
  read_no_data h = sym (data_refused b x o (sym hw ∙ h))

  module _ {p : Part} (h : w ≡ Ok p) where
    ok : occurrence_of b x o ≡ Ok p
    ok = sym hw ∙ h

    table_ok : table_judged b ≡ Accepted
    table_ok = lookup_accepted b x o ok

    found_at : find_occurrence b x o ≡ Some p.number
    found_at = lookup_found b x o ok

    shown : p ≡ record { number = p.number; offset = offset_at b p.number; size = size_at b p.number }
    shown = let e : ◌≡◌ {A = Result Part Refusal} (Ok p) (Ok (record { number = p.number; offset = offset_at b p.number; size = size_at b p.number })) = sym ok ∙ part_found b x o table_ok p.number found_at in cc

    pub read_inside : p.offset + 8 + p.size ≤ length b
    read_inside = rw shown (part_inside b table_ok p.number (occurrence_told b x o p.number found_at).listed)

    pub read_data : take (p.offset + 8 + p.size - (p.offset + 8)) (drop (p.offset + 8) b) ≡ occurrence_data b x o
    unfolding data_at
    read_data =
        let e : p.offset + 8 + p.size - (p.offset + 8) ≡ p.size = omega arith in
        rw (e, data_found_lem b x o table_ok p.number found_at, ← ap (λ (q : Part). q.offset) shown, ← ap (λ (q : Part). q.size) shown)
