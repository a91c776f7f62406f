-- The walk that judges 9 and counts the pairs of names it compares, step by step.
-- Assumes nothing.
use Prim.Native.Nat.{ℕ, zero, suc, ◌+◌, ◌-◌, ◌≤◌, ◌<◌}
use mathlib.Core.Path.{◌≡◌, refl, sym, ◌∙◌, ap}
use mathlib.Core.Bool.{Bool, cond, true, false, ◌&&◌, ◌||◌, not, true≢false}
use mathlib.Core.List.{List, ◌∷◌}
use native.Mathlib.Nat.{add-zero}
use native.Mathlib.Numerals.{add-one}
use native.Mathlib.Omega.{arith}
use lib.Dec.{ltb, eqb}
use Rattle.std.specs.Prelude.{None, Option, Some}
use Rattle.std.specs.List.{position_or_len}
use Rattle.std.proofs.lemmas.List.{get_or-take, length-take-le}
use Rattle.std.proofs.lemmas.List.Recursion.{is_position_or_len}
use lib.ListN.{length, get_or, take}
use borrow.Author.Tests.{lt-ltb, le-ltb, ltb-true, ltb-false}
use Rattle.wire.specs.Choice.{choose}
use Rattle.wire.specs.Search.{first_from, first}
use Rattle.wire.specs.Sum.{sum_below}
use Rattle.wire.specs.Verdict.{◌then◌, each, Verdict, Accepted, Refused}
use Rattle.wire.proofs.Searches.{first_agree, first_le, first_none}
use Rattle.wire.proofs.Sums.{sum_begin, sum_more, sum_grows, triangle}
use Rattle.wire.proofs.Verdicts.{then_accepted, each_none, each_stop, each_next, each_done, checked, check_accepted, check_fails, stop_then, pass_then}
use Rattle.part_table_layout.specs.Lookup.{found_below}
use Rattle.part_table_layout.specs.Pairs.{gone_from, ends, pairs_at, pairs_from, before_names, pairs_if, pairs_compared, table_asked}
use Rattle.part_table_layout.specs.Table.{may_repeat, has_name, may_stand, name_judged, count_of, name_at, header_judged, part_judged, filled, table_of}
use Rattle.part_table_layout.proofs.Filled.{filled_all, taken_length, taken_below}
use Rattle.part_table_layout.proofs.Occurrences.{at_told, nothing_told}
use Rattle.part_table_layout.proofs.Judged.{Walked, stand_agree}

-- ---- how far the numbers are gone through, by the first at which the test is true
-- the first is counted
gone_to : (p : ℕ → Bool) (i m : ℕ) → first_from p i m < i + m → i + gone_from p i m ≡ suc (first_from p i m)
unfolding gone_from
gone_to p i zero h = absurd (omega arith)
gone_to p i (suc m) h = go (p i) refl (gone_to p (suc i) m)
  where
    go : (t : Bool) → p i ≡ t → (first_from p (suc i) m < suc i + m → suc i + gone_from p (suc i) m ≡ suc (first_from p (suc i) m))
        → i + gone_from p i (suc m) ≡ suc (first_from p i (suc m))
    go true e r = rw e (omega arith)
    go false e r = let q = r (let l = rw e at h in omega arith) in rw e (omega arith)

-- where there is none, all are
gone_all : (p : ℕ → Bool) (i m : ℕ) → first_from p i m ≡ i + m → gone_from p i m ≡ m
unfolding gone_from
gone_all p i zero h = refl
gone_all p i (suc m) h = go (p i) refl (gone_all p (suc i) m)
  where
    go : (t : Bool) → p i ≡ t → (first_from p (suc i) m ≡ suc i + m → gone_from p (suc i) m ≡ m) → gone_from p i (suc m) ≡ suc m
    go true e r = absurd (let l = rw e at h in omega arith)
    go false e r = let q = r (let l = rw e at h in omega arith) in rw e (omega arith)

gone_le : (p : ℕ → Bool) (i m : ℕ) → gone_from p i m ≤ m
unfolding gone_from
gone_le p i zero = omega arith
gone_le p i (suc m) = go (p i) refl (gone_le p (suc i) m)
  where
    go : (t : Bool) → p i ≡ t → gone_from p (suc i) m ≤ m → gone_from p i (suc m) ≤ suc m
    go true e r = rw e (omega arith)
    go false e r = rw e (omega arith)

gone_agree : (p q : ℕ → Bool) (i m : ℕ) → ((k : ℕ) → k < i + m → p k ≡ q k) → gone_from p i m ≡ gone_from q i m
unfolding gone_from
gone_agree p q i zero h = refl
gone_agree p q i (suc m) h =
    let e = h i (omega arith) in
    let r = gone_agree p q (suc i) m (λ k l. h k (omega arith)) in
    rw (e, r)

-- ---- what ends the walk over the names before a part with the name x
-- "A PRIV compared with a PRIV counts but doesn't stop the walk"
never_ends : (names : ℕ → ℕ) (x j : ℕ) → may_repeat x ≡ true → ends names x j ≡ false
unfolding ends
never_ends names x j h = go (eqb (names j) x) refl
  where
    go : (s : Bool) → eqb (names j) x ≡ s → ends names x j ≡ false
    go true e = simp (e, h)
    go false e = rw e

-- ---- a search in a list
shifted : (p q : ℕ → Bool) → ((k : ℕ) → p (suc k) ≡ q k) → (i m : ℕ) → first_from p (suc i) m ≡ suc (first_from q i m)
shifted p q h i zero = refl
shifted p q h i (suc m) = rw (h i, shifted p q h (suc i) m) (go (q i))
  where
    go : (t : Bool) → choose t (suc i) (suc (first_from q (suc i) m)) ≡ suc (choose t i (first_from q (suc i) m))
    go true = refl
    go false = refl

-- the first that passes, as a number below the list's length
pub positioned : (p : ℕ → Bool) (xs : List ℕ)
    → cond (ltb (position_or_len p xs) (length xs)) (Some (position_or_len p xs)) None ≡ found_below (length xs) (first (λ k. p (get_or xs k 0)) (length xs))
positioned p xs = rw (← is_position_or_len (λ l. first (λ k. p (get_or l k 0)) (length l)) p refl step xs) (same (ltb (first (λ k. p (get_or xs k 0)) (length xs)) (length xs)) (first (λ k. p (get_or xs k 0)) (length xs)))
  where
    step : (y : ℕ) (ys : List ℕ) → first (λ k. p (get_or (y ∷ ys) k 0)) (suc (length ys)) ≡ cond (p y) 0 (1 + first (λ k. p (get_or ys k 0)) (length ys))
    step y ys = rw (shifted (λ k. p (get_or (y ∷ ys) k 0)) (λ k. p (get_or ys k 0)) (λ k. refl) 0 (length ys)) (go (p y))
      where
        go : (t : Bool) → choose t 0 (suc (first (λ k. p (get_or ys k 0)) (length ys))) ≡ cond t 0 (1 + first (λ k. p (get_or ys k 0)) (length ys))
        go true = refl
        go false = omega arith

    same : (t : Bool) (n : ℕ) → cond t (Some n) None ≡ choose t (Some n) None
    same true n = refl
    same false n = refl

-- the name x is compared with the names in order, up to the one that ends the walk
pub walk_is : (names : List ℕ) (x : ℕ) {r : Bool} → r ≡ may_repeat x
    → found_below (length names) (first (λ k. eqb (get_or names k 0) x && not r) (length names)) ≡ found_below (length names) (first (ends (λ k. get_or names k 0) x) (length names))
unfolding ends
walk_is names x h = rw h

-- ---- a part may stand where nothing ends the walk over the names before it
stand_is : (names : ℕ → ℕ) (x k : ℕ) → may_stand names x k ≡ not (ltb (first (ends names x) k) k)
unfolding may_stand ends
stand_is names x k = go (may_repeat x) refl
  where
    and_true : (s : Bool) → (s && true) ≡ s
    and_true true = refl
    and_true false = refl

    go : (t : Bool) → may_repeat x ≡ t → (t || not (ltb (first (has_name names x) k) k)) ≡ not (ltb (first (ends names x) k) k)
    go true e =
        let q = first_none (ends names x) k (λ j l. never_ends names x j e) in
        let z = le-ltb (first (ends names x) k) k (omega arith) in
        rw z
    go false e =
        let q = first_agree (ends names x) (has_name names x) k (λ j l. rw e (and_true (eqb (names j) x))) in
        rw q

module _ (names : ℕ → ℕ) where
  -- ---- part k, where the walk over the names before it ends at j, or at k
  module _ (k : ℕ) {j : ℕ} (h : j ≡ first (ends names (names k)) k) where
    ended : j < k → may_stand names (names k) k ≡ false
    ended l = stand_is names (names k) k ∙ ap not (lt-ltb (first (ends names (names k)) k) k (omega arith))

    through : k ≤ j → may_stand names (names k) k ≡ true
    through l = stand_is names (names k) k ∙ ap not (le-ltb (first (ends names (names k)) k) k (omega arith))

    -- "a match ends the count": the matching pair is the last that counts
    pairs_to : j < k → pairs_at names k ≡ suc j
    unfolding pairs_at
    pairs_to l = let r = gone_to (ends names (names k)) 0 k (omega arith) in omega arith

    pairs_all : k ≤ j → pairs_at names k ≡ k
    unfolding pairs_at
    pairs_all l =
        let q = first_le (ends names (names k)) k in
        gone_all (ends names (names k)) 0 k (omega arith)

  -- where part k passes, it was compared with all before it
  passed : (k : ℕ) → may_stand names (names k) k ≡ true → pairs_at names k ≡ k
  passed k h = go (ltb (first (ends names (names k)) k) k) refl
    where
      go : (t : Bool) → ltb (first (ends names (names k)) k) k ≡ t → pairs_at names k ≡ k
      go true e = absurd (true≢false (sym h ∙ stand_is names (names k) k ∙ ap not e))
      go false e = pairs_all k refl (ltb-false _ _ e)

  -- where it may not stand, something ended the walk
  pub matched : (k : ℕ) → may_stand names (names k) k ≡ false → first (ends names (names k)) k < k
  matched k h = go (ltb (first (ends names (names k)) k) k) refl
    where
      go : (t : Bool) → ltb (first (ends names (names k)) k) k ≡ t → first (ends names (names k)) k < k
      go true e = ltb-true _ _ e
      go false e = absurd (true≢false (sym (stand_is names (names k) k ∙ ap not e) ∙ h))

  -- ---- all parts
  -- once the first k have passed, all their pairs were compared
  pairs_past : (k m : ℕ) → each (name_judged names) k ≡ Accepted → pairs_from names 0 (k + m) ≡ sum_below (λ i. i) k + pairs_from names k m
  unfolding pairs_from each name_judged
  pairs_past zero m h = let z = sum_begin (λ i. i) in let e : 0 + m ≡ m = omega arith in rw e (omega arith)
  pairs_past (suc k) m h =
      let t = then_accepted (each (name_judged names) k) _ h in
      let s = check_accepted (may_stand names (names k) k) 9 k t.1 in
      let a = passed k s in
      let r = rw s at (pairs_past k (suc m) t.0) in
      let q = sum_more (λ i. i) k in
      let e : suc k + m ≡ k + suc m = omega arith in
      rw e (omega arith)

  pub pairs_exact : (n : ℕ) → each (name_judged names) n ≡ Accepted → pairs_from names 0 n ≡ sum_below (λ i. i) n
  unfolding pairs_from
  pairs_exact n h = let r = rw (add-zero n) at (pairs_past n 0 h) in omega arith

  pub pairs_bound : (k m : ℕ) → sum_below (λ i. i) k + pairs_from names k m ≤ sum_below (λ i. i) (k + m)
  unfolding pairs_from pairs_at
  pairs_bound k zero = rw (add-zero k) (omega arith)
  pairs_bound k (suc m) =
      let r = pairs_bound (suc k) m in
      let s = sum_more (λ i. i) k in
      let a = gone_le (ends names (names k)) 0 k in
      let e : k + suc m ≡ suc k + m = omega arith in
      rw e (go (may_stand names (names k) k) (omega arith) (omega arith))
    where
      go : (t : Bool) → sum_below (λ i. i) k + gone_from (ends names (names k)) 0 k ≤ sum_below (λ i. i) (suc k + m)
          → sum_below (λ i. i) k + gone_from (ends names (names k)) 0 k + pairs_from names (suc k) m ≤ sum_below (λ i. i) (suc k + m)
          → sum_below (λ i. i) k + (gone_from (ends names (names k)) 0 k + choose t (pairs_from names (suc k) m) 0) ≤ sum_below (λ i. i) (suc k + m)
      go true p q = omega arith
      go false p q = omega arith

-- what is compared goes by the names alone
pairs_agree : (f g : ℕ → ℕ) (k m : ℕ) → ((j : ℕ) → j < k + m → f j ≡ g j) → pairs_from f k m ≡ pairs_from g k m
unfolding pairs_from pairs_at ends
pairs_agree f g k zero h = refl
pairs_agree f g k (suc m) h =
    let e = h k (omega arith) in
    let a = gone_agree (ends f (g k)) (ends g (g k)) 0 k (λ j l. let q = h j (omega arith) in rw q) in
    let s = stand_agree f g (g k) k (λ j l. h j (omega arith)) in
    let r = pairs_agree f g (suc k) m (λ j l. h j (omega arith)) in
    rw (e, a, s, r)

-- ---- the walk that judges 9 and counts: it has come to part k, and c pairs were compared
pub record Compared (names : ℕ → ℕ) (n k c : ℕ) : Type 0 where
  pub within : k ≤ n
  pub fine : each (name_judged names) k ≡ Accepted
  pub pairs : c ≡ sum_below (λ i. i) k

pub compare_begin : (names : ℕ → ℕ) {n : ℕ} → Compared names n 0 0
compare_begin names = record { within = omega arith; fine = each_none _; pairs = sym (sum_begin (λ i. i)) }

-- so few that the number is one of 32 bits
pub compared_few : (names : ℕ → ℕ) {n k c : ℕ} → Compared names n k c → n ≤ 96 → c ≤ 4560
compared_few names {n} {k} w l =
    let g = sum_grows (λ i. i) k 96 (omega (arith, w.within)) in
    let u : sum_below (λ i. i) 96 ≡ 4560 = triangle 96 in
    omega (arith, w.pairs)

module _ (names : ℕ → ℕ) {n k c : ℕ} (w : Compared names n k c) where
  module _ {j : ℕ} (l : k < n) (h : j ≡ first (ends names (names k)) k) where
    -- no match: part k passes, and was compared with the k before it
    pub compare_on : k ≤ j → Compared names n (k + 1) (c + k)
    unfolding name_judged
    compare_on g =
        record {
          within = omega arith;
          fine = rw add-one (each_next _ _ w.fine (checked _ 9 k (through names k h g)));
          pairs = let s = sum_more (λ i. i) k in rw add-one (omega (arith, w.pairs));
        }

    -- a match: one pair more than those before it, and the walk ends
    module _ (g : j < k) where
      pub compare_stops : each (name_judged names) n ≡ Refused 9 k
      unfolding name_judged
      compare_stops = each_stop _ k n 9 k l w.fine (check_fails _ 9 k (ended names k h g))

      pub compare_ends : c + j + 1 ≡ pairs_from names 0 n
      unfolding pairs_from
      compare_ends =
          let m = n - suc k in
          let e : n ≡ k + suc m = omega arith in
          let r = rw (ended names k h g, pairs_to names k h g) at (pairs_past names k (suc m) w.fine) in
          rw e (omega (arith, w.pairs))

  -- all parts have passed
  pub compare_done : n ≤ k → (each (name_judged names) n ≡ Accepted) × (c ≡ pairs_from names 0 n)
  compare_done g =
      let a = each_done _ w.within g w.fine in
      let r = pairs_exact names n a in
      let e : k ≡ n = omega (arith, w.within) in
      (a, w.pairs ∙ rw e (sym r))

-- ---- the same of a list of names, where f is what the walk over those before the k-th found
module _ (names : List ℕ) {k c : ℕ} (w : Compared (λ i. get_or names i 0) (length names) k c) (l : k < length names) {f : Option ℕ}
    (h : f ≡ found_below (length (take k names)) (first (ends (λ i. get_or (take k names) i 0) (get_or names k 0)) (length (take k names)))) where
  abbrev to : ℕ
  to = first (ends (λ i. get_or names i 0) (get_or names k 0)) k

  walked : f ≡ found_below k to
  unfolding ends
  walked =
      let n = length-take-le k names (omega arith) in
      let a = first_agree (ends (λ i. get_or (take k names) i 0) (get_or names k 0)) (ends (λ i. get_or names i 0) (get_or names k 0)) k (λ j g. let e = get_or-take k names j 0 g in rw e) in
      h ∙ rw (n, a)

  pub list_on : f ≡ None → Compared (λ i. get_or names i 0) (length names) (k + 1) (c + k)
  list_on e = compare_on _ w l refl (nothing_told k to _ refl (sym walked ∙ e))

  module _ {j : ℕ} (e : f ≡ Some j) where
    told : (to ≡ j) × (to < k)
    told = at_told k to j _ refl (sym walked ∙ e)

    pub list_below : j < k
    list_below = let t = told in omega (arith, t.0, t.1)

    pub list_stops : each (name_judged (λ i. get_or names i 0)) (length names) ≡ Refused 9 k
    list_stops = compare_stops _ w l refl told.1

    pub list_ends : c + j + 1 ≡ pairs_from (λ i. get_or names i 0) 0 (length names)
    list_ends = compare_ends _ w l (sym told.0) list_below

-- ---- a reading, for who asks and who doesn't
-- 8 refused, and no pair was compared
pub eight_pairs : (b : List ℕ) (c : Bool) {n m p : ℕ} → n ≡ count_of b → each (part_judged b) n ≡ Refused m p
    → 0 ≡ choose c (pairs_if (each (part_judged b) (count_of b)) b) 0
eight_pairs b true hn h = let e = rw hn at h in rw e
eight_pairs b false hn h = refl

-- 8 passed, and the names of the table were compared
pub nine_pairs : (b : List ℕ) (c : Bool) {n i end : ℕ} {names : List ℕ} → n ≡ count_of b → n ≤ 96 → Walked b n i end → n ≤ i → names ≡ filled (name_at b) i
    → choose c (pairs_from (λ k. get_or (take n names) k 0) 0 (length (take n names))) 0 ≡ choose c (pairs_if (each (part_judged b) (count_of b)) b) 0
nine_pairs b false hn l w g hx = refl
nine_pairs b true {n} hn l w g hx =
    let e = rw hn at (each_done _ w.within g w.fine) in
    let q = pairs_agree (λ k. get_or (take n (filled (name_at b) n)) k 0) (name_at b) 0 n (λ j k. taken_below (name_at b) n j l (omega arith)) in
    rw (filled_all (name_at b) w.within g hx, taken_length (name_at b) n l, q, hn, e)

-- who doesn't ask gets no number
pub unasked : (b : List ℕ) → table_asked false b ≡ table_of b
unasked b = refl

-- 1 to 7
module _ (b : List ℕ) (c : Bool) where
  pub header_pairs : {m p : ℕ} → header_judged b ≡ Refused m p → 0 ≡ choose c (pairs_compared b) 0
  unfolding pairs_compared before_names
  header_pairs h = go c (stop_then _ (each (part_judged b) (count_of b)) _ _ h)
    where
      go : (t : Bool) {m p : ℕ} → Refused m p ≡ (header_judged b then each (part_judged b) (count_of b)) → 0 ≡ choose t (pairs_if (before_names b) b) 0
      go true q = rw (← q)
      go false q = refl

  pub parts_pairs : header_judged b ≡ Accepted → choose c (pairs_if (each (part_judged b) (count_of b)) b) 0 ≡ choose c (pairs_compared b) 0
  unfolding pairs_compared before_names
  parts_pairs h = ap (λ (w : Verdict). choose c (pairs_if w b) 0) (pass_then (header_judged b) (each (part_judged b) (count_of b)) _ h refl)
