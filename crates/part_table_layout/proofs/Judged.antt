-- The verdicts of 8 and 9 at numbers that the code holds.
-- Assumes nothing.
use Prim.Native.Nat.{ℕ, ◌+◌, ◌-◌, ◌*◌, ◌≤◌, ◌<◌}
use mathlib.Core.Path.{◌≡◌, refl, sym, ◌∙◌}
use mathlib.Core.Bool.{Bool, true, false, ◌||◌, not, true≢false}
use mathlib.Core.Logic.{⊎_elim}
use mathlib.Core.List.{List}
use native.Mathlib.Nat.{eq-or-lt_of_le}
use native.Mathlib.Numerals.{add-one}
use native.Mathlib.Omega.{arith}
use lib.Dec.{ltb}
use lib.ListN.{length, get_or, take}
use Rattle.std.proofs.lemmas.List.{get_or-take, length-take-le}
use borrow.Author.Tests.{lt-ltb, le-ltb, ltb-true, ltb-false, eq-eqb, ne_eqb, le-leb, lt-leb}
use Rattle.wire.specs.Number.{u32_at}
use Rattle.wire.specs.Search.{first}
use Rattle.wire.specs.Verdict.{each, Accepted, Refused}
use Rattle.wire.proofs.Searches.{first_agree, first_below, first_at, first_is, first_none}
use Rattle.wire.proofs.Verdicts.{checked, check_fails, each_none, each_stop, each_next, each_done, each_cong, stop_then, pass_then}
use Rattle.part_table_layout.specs.Table.{count_of, offset_at, name_at, size_at, end_at, earliest, part_judged, has_name, stood_earlier, may_repeat, may_stand, name_judged, gap_at, parts_judged, filled}
use Rattle.part_table_layout.proofs.Filled.{filled_all, taken_length, taken_below}

pub offset_is : (b : List ℕ) (k : ℕ) {s : ℕ} → s ≡ u32_at b (32 + 4 * k) → s ≡ offset_at b k
unfolding offset_at
offset_is b k h = h

pub name_is : (b : List ℕ) (k : ℕ) {s x : ℕ} → s ≡ offset_at b k → x ≡ u32_at b s → x ≡ name_at b k
unfolding name_at
name_is b k hs h = rw hs at h

-- 8 of part k, which starts at s where end is the earliest place
module _ (b : List ℕ) (k : ℕ) {s end : ℕ} (hs : s ≡ offset_at b k) (he : end ≡ earliest b k) where
  pub early : s < end → part_judged b k ≡ Refused 8 k
  unfolding part_judged
  early h = check_fails _ _ _ (simp (lt-leb _ _ (rw (hs, he) at h)))

  pub no_header : end ≤ s → length b < s + 8 → part_judged b k ≡ Refused 8 k
  unfolding part_judged
  no_header h g = check_fails _ _ _ (simp (le-leb _ _ (rw (he, hs) at h), lt-leb _ _ (rw hs at g)))

  pub gap_is : s - end ≡ gap_at b k
  unfolding gap_at
  gap_is = rw (hs, he)

  module _ {z : ℕ} (hz : z ≡ u32_at b (s + 4)) where
    pub size_is : z ≡ size_at b k
    unfolding size_at
    size_is = rw hs at hz

    end_at_lem : s + 8 + z ≡ end_at b k
    unfolding end_at
    end_at_lem = rw (hs, size_is)

    pub no_data : end ≤ s → s + 8 ≤ length b → length b < s + 8 + z → part_judged b k ≡ Refused 8 k
    unfolding part_judged
    no_data h g f = check_fails _ _ _ (simp (le-leb _ _ (rw (he, hs) at h), le-leb _ _ (rw hs at g), lt-leb _ _ (rw end_at_lem at f)))

    pub fits : end ≤ s → s + 8 ≤ length b → s + 8 + z ≤ length b → part_judged b k ≡ Accepted
    unfolding part_judged
    fits h g f = checked _ _ _ (simp (le-leb _ _ (rw (he, hs) at h), le-leb _ _ (rw hs at g), le-leb _ _ (rw end_at_lem at f)))

-- 8 of every part in turn: the walk over n parts has come to part i, which may start at end
pub record Walked (b : List ℕ) (n i end : ℕ) : Type 0 where
  pub within : i ≤ n
  pub fine : each (part_judged b) i ≡ Accepted
  pub next : end ≡ earliest b i

pub walk_begin : (b : List ℕ) {n : ℕ} → n ≡ count_of b → Walked b n 0 (32 + 4 * n)
unfolding earliest
walk_begin b h = record { within = omega arith; fine = each_none _; next = rw h }

module _ (b : List ℕ) {n i end : ℕ} (w : Walked b n i end) (l : i < n) where
  pub walk_on : part_judged b i ≡ Accepted → {s z : ℕ} → s ≡ offset_at b i → z ≡ size_at b i → Walked b n (i + 1) (s + 8 + z)
  unfolding earliest end_at
  walk_on e hs hz =
      record { within = omega arith; fine = rw add-one (each_next _ _ w.fine e); next = rw (add-one, hs, hz) }

  pub walk_stops : {m p : ℕ} → part_judged b i ≡ Refused m p → each (part_judged b) n ≡ Refused m p
  walk_stops e = each_stop _ _ _ _ _ l w.fine e

-- 9 of name k: whether a part with the name x may stand after the first k, where t is whether one of them has that name
module _ (names : ℕ → ℕ) (x k : ℕ) {t : Bool} (h : t ≡ stood_earlier names x k) where
  pub stood : t ≡ true → {r : Bool} → r ≡ may_repeat x → r ≡ may_stand names x k
  unfolding may_stand
  stood e {r} q = q ∙ go (may_repeat x)
    where
      go : (s : Bool) → s ≡ (s || not (stood_earlier names x k))
      go true = refl
      go false = rw (← h, e)

  pub fresh : t ≡ false → true ≡ may_stand names x k
  unfolding may_stand
  fresh e = go (may_repeat x)
    where
      go : (s : Bool) → true ≡ (s || not (stood_earlier names x k))
      go true = refl
      go false = rw (← h, e)

-- whether x is one of the first i names
unfoldable pub seen_below : List ℕ → ℕ → ℕ → Bool
seen_below names x i = ltb (first (has_name (λ k. get_or names k 0) x) i) i

module _ (names : List ℕ) (x : ℕ) where
  abbrev p : ℕ → Bool
  p = has_name (λ k. get_or names k 0) x

  pub none_seen : false ≡ seen_below names x 0
  unfolding seen_below
  none_seen = refl

  module _ (i : ℕ) where
    pub hit : {s : Bool} → s ≡ true → get_or names i 0 ≡ x → s ≡ seen_below names x (i + 1)
    unfolding seen_below
    hit h e = h ∙ go (ltb (first p (i + 1)) (i + 1)) refl
      where
        go : (t : Bool) → ltb (first p (i + 1)) (i + 1) ≡ t → true ≡ t
        go true q = refl
        go false q =
            let l = ltb-false (first p (i + 1)) (i + 1) q in
            absurd (true≢false (sym (eq-eqb _ _ e) ∙ first_below p (i + 1) i (omega arith)))

    pub miss : {s t : Bool} → s ≡ t → t ≡ seen_below names x i → (get_or names i 0 ≡ x → ⊥) → s ≡ seen_below names x (i + 1)
    unfolding seen_below
    miss h g e = h ∙ g ∙ go (ltb (first p i) i) refl
      where
        go : (t : Bool) → ltb (first p i) i ≡ t → t ≡ ltb (first p (i + 1)) (i + 1)
        go true q =
            let l = ltb-true (first p i) i q in
            let r = first_is p (i + 1) (first p i) (λ j k. first_below p i j k) (omega arith) (first_at p i l) in
            sym (lt-ltb (first p (i + 1)) (i + 1) (omega arith))
        go false q =
            let l = ltb-false (first p i) i q in
            let below : (j : ℕ) → j < i + 1 → p j ≡ false =
            λ j k. ⊎_elim (λ y. rw y (ne_eqb _ _ e)) (λ y. first_below p i j (omega arith)) (eq-or-lt_of_le (let m : j ≤ i = omega arith in m)) in
            let r = first_none p (i + 1) below in
            sym (le-ltb (first p (i + 1)) (i + 1) (omega arith))

    pub all_seen : {n : ℕ} {s : Bool} → i ≤ n → n ≤ i → s ≡ seen_below names x i → s ≡ ltb (first p n) n
    unfolding seen_below
    all_seen {n} h g e = let q : i ≡ n = omega arith in rw q at e

-- 9 goes by the names alone
pub stand_agree : (f g : ℕ → ℕ) (x k : ℕ) → ((j : ℕ) → j < k → f j ≡ g j) → may_stand f x k ≡ may_stand g x k
unfolding may_stand
stand_agree f g x k h =
    let e : first (has_name f x) k ≡ first (has_name g x) k = first_agree _ _ k (λ j l. let p = h j l in rw p) in
    rw e

-- 9 of name i, looked at among those before it
module _ (names : List ℕ) (i : ℕ) (l : i < length names) {t : Bool}
    (h : t ≡ may_stand (λ k. get_or (take i names) k 0) (get_or names i 0) (length (take i names))) where
  stands_here : t ≡ may_stand (λ k. get_or names k 0) (get_or names i 0) i
  stands_here =
      let n = length-take-le i names (omega arith) in
      h ∙ rw n (stand_agree _ _ (get_or names i 0) i (λ j g. get_or-take i names j 0 g))

  pub name_refused : t ≡ false → name_judged (λ k. get_or names k 0) i ≡ Refused 9 i
  unfolding name_judged
  name_refused e = check_fails _ _ _ (sym stands_here ∙ e)

  pub name_accepted : t ≡ true → name_judged (λ k. get_or names k 0) i ≡ Accepted
  unfolding name_judged
  name_accepted e = checked _ _ _ (sym stands_here ∙ e)

name_agree : (f g : ℕ → ℕ) (k : ℕ) → ((j : ℕ) → j ≤ k → f j ≡ g j) → name_judged f k ≡ name_judged g k
unfolding name_judged
name_agree f g k h =
    let e = stand_agree f g (g k) k (λ j l. h j (omega arith)) in
    let q = h k (omega arith) in
    rw (q, e)

-- the names of a table repeat where those of the file do
pub names_agree : (b : List ℕ) {n : ℕ} → n ≤ 96
    → each (name_judged (λ k. get_or (take n (filled (name_at b) n)) k 0)) (length (take n (filled (name_at b) n))) ≡ each (name_judged (name_at b)) n
names_agree b {n} l =
    rw (taken_length (name_at b) n l) (each_cong _ _ n (λ k h. name_agree _ _ k (λ j g. taken_below (name_at b) n j l (omega arith))))

-- ---- 8, then 9
module _ (b : List ℕ) {n : ℕ} (hn : n ≡ count_of b) where
  pub eight_refused : {m p : ℕ} → each (part_judged b) n ≡ Refused m p → Refused m p ≡ parts_judged b
  unfolding parts_judged
  eight_refused h = stop_then _ (each (name_judged (name_at b)) (count_of b)) _ _ (rw hn at h)

  pub nine_is : {i end : ℕ} {names : List ℕ} → n ≤ 96 → Walked b n i end → n ≤ i → names ≡ filled (name_at b) i
      → each (name_judged (λ k. get_or (take n names) k 0)) (length (take n names)) ≡ parts_judged b
  unfolding parts_judged
  nine_is l w ni hx =
      pass_then _ _ _ (rw hn at (each_done _ w.within ni w.fine))
      (rw (filled_all (name_at b) w.within ni hx) (names_agree b l ∙ rw hn))
