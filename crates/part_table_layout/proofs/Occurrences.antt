-- Among n names: the one with a name and an occurrence, and what a running counter of the names that may repeat gives.
-- Assumes nothing.
use Rattle.std.specs.Prelude.{None, Option, Some}
use Prim.Native.Nat.{ℕ, zero, suc, ◌+◌, ◌-◌, ◌≤◌, ◌<◌}
use mathlib.Core.Path.{◌≡◌, refl, sym}
use mathlib.Core.Bool.{Bool, true, false, ◌&&◌}
use mathlib.Core.Logic.{⊎_elim}
use native.Mathlib.Nat.{eq-or-lt_of_le, pos_of_ne-zero}
use native.Mathlib.Numerals.{add-one}
use native.Mathlib.Omega.{arith}
use lib.Dec.{ltb, eqb}
use borrow.Author.Tests.{lt-ltb, le-ltb, ltb-true, ltb-false, eqb-true, eqb-false, eq-eqb, ne_eqb}
use Rattle.wire.specs.Choice.{choose}
use Rattle.wire.specs.Search.{first}
use Rattle.wire.specs.Sum.{sum_below, count_below}
use Rattle.wire.proofs.Choices.{both}
use Rattle.wire.proofs.Searches.{first_agree, first_below, first_at, first_is, first_none}
use Rattle.wire.proofs.Sums.{count_agree, count_begin, count_hit, count_miss, count_none, count_le, count_past}
use Rattle.part_table_layout.specs.Lookup.{first_named, is_occurrence, occurrence_named}
use Rattle.part_table_layout.specs.Table.{has_name, priv, may_repeat, borne, occurrence_at}
use Rattle.part_table_layout.proofs.Accepted.{Fresh}

pub at_told : (n r k : ℕ) (t : Bool) → ltb r n ≡ t → choose t (Some r) None ≡ Some k → (r ≡ k) × (r < n)
at_told n r k true e h = (cc, ltb-true r n e)
at_told n r k false e h = absurd (let z : ◌≡◌ {A = ℕ} 0 1 = cc in omega arith)

pub nothing_told : (n r : ℕ) (t : Bool) → ltb r n ≡ t → choose t (Some r) None ≡ None → n ≤ r
nothing_told n r true e h = absurd (let z : ◌≡◌ {A = ℕ} 0 1 = cc in omega arith)
nothing_told n r false e h = ltb-false r n e

module _ (names : ℕ → ℕ) (n x : ℕ) where
  -- name k is the first that is x
  pub record First (k : ℕ) : Type 0 where
    pub listed : k < n
    pub named : names k ≡ x
    pub none_earlier : (j : ℕ) → j < k → names j ≡ x → ⊥

  pub first_told : (k : ℕ) → first_named names n x ≡ Some k → First k
  first_told k h =
      let p = has_name names x in
      let r = first p n in
      let t = at_told n r k _ refl h in
      let e = t.0 in
      record {
        listed = rw e at t.1;
        named = rw e at (eqb-true (names r) x (first_at p n t.1));
        none_earlier = λ j l. eqb-false (names j) x (first_below p n j (omega arith));
      }

  pub first_named_lem : (k : ℕ) → First k → first_named names n x ≡ Some k
  first_named_lem k h =
      let e = first_is (has_name names x) n k (λ j l. ne_eqb _ _ (h.none_earlier j l)) h.listed (eq-eqb _ _ h.named) in
      rw (e, lt-ltb _ _ h.listed)

  pub none_told : first_named names n x ≡ None → (k : ℕ) → k < n → names k ≡ x → ⊥
  none_told h k l =
      let p = has_name names x in
      let r = nothing_told n (first p n) _ refl h in
      eqb-false (names k) x (first_below p n k (omega arith))

  pub none_named : ((k : ℕ) → k < n → names k ≡ x → ⊥) → first_named names n x ≡ None
  none_named h =
      let e = first_none (has_name names x) n (λ j l. ne_eqb _ _ (h j l)) in
      rw (e, le-ltb n n (omega arith))

  -- ---- by occurrence
  -- name k is x, and o earlier ones are
  pub record Occurs (o k : ℕ) : Type 0 where
    pub listed : k < n
    pub named : names k ≡ x
    pub earlier : borne names x k ≡ o

  pub occurs_told : (o k : ℕ) → occurrence_named names n x o ≡ Some k → Occurs o k
  occurs_told o k h =
      let p = is_occurrence names x o in
      let r = first p n in
      let t = at_told n r k _ refl h in
      let e = t.0 in
      let a = both (eqb (names r) x) (eqb (borne names x r) o) (first_at p n t.1) in
      record {
        listed = rw e at t.1;
        named = rw e at (eqb-true (names r) x a.0);
        earlier = rw e at (eqb-true (borne names x r) o a.1);
      }

  -- where so many earlier ones are x, none of them has that occurrence
  none_below : (o k : ℕ) → borne names x k ≤ o → (j : ℕ) → j < k → is_occurrence names x o j ≡ false
  none_below o k e j l = go (eqb (names j) x) refl
    where
      go : (t : Bool) → eqb (names j) x ≡ t → (t && eqb (borne names x j) o) ≡ false
      go false q = refl
      go true q = let c = count_past (has_name names x) j k l q in ne_eqb (borne names x j) o (λ z. omega arith)

  pub occurs_is : (o k : ℕ) → Occurs o k → occurrence_named names n x o ≡ Some k
  occurs_is o k h =
      let t : is_occurrence names x o k ≡ true = simp (eq-eqb _ _ h.named, eq-eqb _ _ h.earlier) in
      let e = first_is (is_occurrence names x o) n k (none_below o k (let q = h.earlier in omega arith)) h.listed t in
      rw (e, lt-ltb _ _ h.listed)

  -- "a number that is too great": so many or fewer names are x
  pub too_great : (o : ℕ) → borne names x n ≤ o → occurrence_named names n x o ≡ None
  too_great o h =
      let e = first_none (is_occurrence names x o) n (none_below o n h) in
      rw (e, le-ltb n n (omega arith))

  -- and no other number is
  not_reached : (o : ℕ) → ((j : ℕ) → j < n → is_occurrence names x o j ≡ false) → (k : ℕ) → k ≤ n → borne names x k ≤ o
  not_reached o h zero l = let e = count_begin (has_name names x) in omega arith
  not_reached o h (suc k) l = go (not_reached o h k (omega arith)) (eqb (names k) x) refl
    where
      go : borne names x k ≤ o → (t : Bool) → eqb (names k) x ≡ t → borne names x (suc k) ≤ o
      go r false q = let c = count_miss (has_name names x) k q in omega arith
      go r true q =
          let c = count_hit (has_name names x) k q in
          let z : borne names x k ≡ o → ⊥ = eqb-false (borne names x k) o (rw q at (h k l)) in
          ⊎_elim (λ e. absurd (z e)) (λ m. omega arith) (eq-or-lt_of_le r)

  pub great_told : (o : ℕ) → occurrence_named names n x o ≡ None → borne names x n ≤ o
  great_told o h =
      let p = is_occurrence names x o in
      let r = nothing_told n (first p n) _ refl h in
      not_reached o (λ j l. first_below p n j (omega arith)) n (omega arith)

  -- "without it the first part is meant"
  pub first_occurs : occurrence_named names n x 0 ≡ first_named names n x
  first_occurs = go (first_named names n x) refl
    where
      go : (f : Option ℕ) → first_named names n x ≡ f → occurrence_named names n x 0 ≡ f
      go (Some k) e =
          let f = first_told k e in
          occurs_is 0 k (record { listed = f.listed; named = f.named; earlier = count_none _ k (λ j l. ne_eqb _ _ (f.none_earlier j l)) })
      go None e = too_great 0 (let c = count_none (has_name names x) n (λ j l. ne_eqb _ _ (none_told e j l)) in omega arith)

  -- ---- a search has come to i, and has still to pass left names that are x
  pub record Passing (o i left : ℕ) : Type 0 where
    pub within : i ≤ n
    pub to_pass : borne names x i + left ≡ o

  pub pass_begin : (o : ℕ) → Passing o 0 o
  pass_begin o = record { within = omega arith; to_pass = let e = count_begin (has_name names x) in omega arith }

  module _ {o i left : ℕ} (p : Passing o i left) where
    pub pass_other : i < n → (names i ≡ x → ⊥) → Passing o (i + 1) left
    pass_other l e =
        let c = count_miss (has_name names x) i (ne_eqb _ _ e) in
        record { within = omega arith; to_pass = rw add-one (let q = p.to_pass in omega arith) }

    pub pass_one : i < n → names i ≡ x → (left ≡ 0 → ⊥) → {less : ℕ} → less ≡ left - 1 → Passing o (i + 1) less
    pass_one l e some d =
        let c = count_hit (has_name names x) i (eq-eqb _ _ e) in
        let s : 0 < left = pos_of_ne-zero some in
        record { within = omega arith; to_pass = rw add-one (let q = p.to_pass in omega arith) }

    pub pass_here : i < n → names i ≡ x → left ≡ 0 → Some i ≡ occurrence_named names n x o
    pass_here l e z = sym (occurs_is o i (record { listed = l; named = e; earlier = let q = p.to_pass in omega arith }))

    pub pass_nowhere : n ≤ i → None ≡ occurrence_named names n x o
    pass_nowhere l =
        let q : i ≡ n = let w = p.within in omega arith in
        let t : borne names x n + left ≡ o = rw q at p.to_pass in
        sym (too_great o (omega arith))

-- names that agree are looked up alike
pub occurrence_agree : (f g : ℕ → ℕ) (n x o : ℕ) → ((j : ℕ) → j < n → f j ≡ g j) → occurrence_named f n x o ≡ occurrence_named g n x o
occurrence_agree f g n x o h =
    let e = first_agree (is_occurrence f x o) (is_occurrence g x o) n
    (λ j l.
    let p = h j l in
    let c : borne f x j ≡ borne g x j = count_agree _ _ j (λ i m. let q = h i (omega arith) in rw q) in
    rw (p, c)) in
    rw e

-- ---- occurrences by a running counter of the names that may repeat
abbrev pub repeats_below : (ℕ → ℕ) → ℕ → ℕ
repeats_below names k = count_below (λ j. may_repeat (names j)) k

abbrev pub counted_at : (ℕ → ℕ) → ℕ → ℕ
counted_at names k = choose (may_repeat (names k)) (repeats_below names k) 0

module _ (names : ℕ → ℕ) {k r : ℕ} (hr : r ≡ repeats_below names k) where
  pub repeats_few : r ≤ k
  repeats_few = rw hr (count_le _ k)

  pub repeats_more : {x : ℕ} → x ≡ names k → r + choose (may_repeat x) 1 0 ≡ repeats_below names (k + 1)
  unfolding count_below sum_below
  repeats_more hx = rw (hr, hx, add-one)

  pub counted_here : {x : ℕ} → x ≡ names k → choose (may_repeat x) r 0 ≡ counted_at names k
  counted_here hx = rw (hr, hx)

module _ (names : ℕ → ℕ) (k : ℕ) (f : Fresh names k) where
  -- "0 for every name but PRIV"
  pub single : may_repeat (names k) ≡ false → occurrence_at names k ≡ 0
  single r = count_none _ k (λ j g. ne_eqb _ _ (f.new r j g))

  pub counted_is : counted_at names k ≡ occurrence_at names k
  unfolding may_repeat
  counted_is = go (may_repeat (names k)) refl
    where
      go : (t : Bool) → may_repeat (names k) ≡ t → choose t (repeats_below names k) 0 ≡ occurrence_at names k
      go true e = let q = eqb-true (names k) priv e in rw q
      go false e = sym (single e)
