-- Where a run of the machine decides: past the zero byte, and past the bytes that follow a lead byte.
-- Assumes nothing.
use Prim.Native.Nat.{ℕ, zero, suc, ◌+◌, ◌-◌, ◌/◌, ◌≤◌, ◌<◌}
use mathlib.Core.Path.{◌≡◌, refl, sym, ◌∙◌}
use mathlib.Core.Bool.{Bool, true, false, true≢false}
use mathlib.Core.List.{List, [], ◌∷◌}
use native.Mathlib.Omega.{arith}
use native.Mathlib.Nat.{add-zero}
use native.Mathlib.Numerals.{add-one}
use lib.Dec.{ltb, eqb}
use lib.ListN.{length, get_or, take, drop}
use lib.Seq.{get_or-drop}
use borrow.Author.Tests.{lt-ltb, le-ltb, ltb-true, ltb-false, eq-eqb, ne_eqb}
use Rattle.wire.specs.Choice.{choose}
use Rattle.utf8_layout.specs.Lead.{follows}
use Rattle.utf8_layout.specs.Sequence.{within}
use Rattle.utf8_layout.proofs.Rows.{inside, bounds}
use Rattle.psv0_layout.specs.Position.{PlainFrom}
use Rattle.psv0_layout.specs.Reference.{until_zero, string_ends, string_at, string_good}
use Rattle.psv0_layout.proofs.References.{string_past, string_is, ends_length, plain_well}
use Rattle.utf8.specs.Machine.{State, bad, between, one, two, three, after_e0, after_ed, after_f0, after_f4, done, rest_of, good_from, resumed, good_in, begin, onward, step, ran}
use Rattle.utf8.specs.Marks.{past_by, past_at, flag}
use Rattle.utf8.proofs.Machine.{string_from, step_state, ran_state, ran_more, ran_join, ran_good}

-- a reference is good as the machine says between two sequences
good_between : (t : List ℕ) (o : ℕ) → string_good t o ≡ good_in 6 (drop o t)
unfolding good_in rest_of resumed
good_between t o = string_from t o

pub good_past : (t : List ℕ) (o : ℕ) → length t ≤ o → string_good t o ≡ false
unfolding string_good string_ends
good_past t o h = rw (le-ltb o (length t) h)

-- ---- past the zero byte
zero_good : {s : ℕ} (l : List ℕ) → State s → good_in (step 0 s) l ≡ eqb (step 0 s) 54
unfolding good_in step begin onward
zero_good l bad = refl
zero_good l between = refl
zero_good l one = refl
zero_good l two = refl
zero_good l three = refl
zero_good l after_e0 = refl
zero_good l after_ed = refl
zero_good l after_f0 = refl
zero_good l after_f4 = refl
zero_good l done = refl

pub read_good : (t : List ℕ) (o to r : ℕ) → o ≤ to → to < length t → get_or t to 0 ≡ 0 → r ≡ ran t o (to + 1 - o) 6
    → eqb r 54 ≡ string_good t o
read_good t o to r h l z e =
    let n : to + 1 - o ≡ suc (to - o) = omega arith in
    let q : o + (to - o) ≡ to = omega arith in
    let m : ran t o (suc (to - o)) 6 ≡ step 0 (ran t o (to - o) 6) = ran_more t o (to - o) 6 ∙ rw (q, z) in
    let f : r ≡ step 0 (ran t o (to - o) 6) = e ∙ rw n m in
    let g = ran_good t o (suc (to - o)) between (omega arith) in
    rw f (sym (zero_good (drop (o + suc (to - o)) t) (ran_state t o (to - o) between)) ∙ rw (← m) (g ∙ sym (good_between t o)))

-- ---- past the bytes that follow a lead byte
pub follows_test : (x : ℕ) → eqb (x / 64) 2 ≡ follows x
follows_test x = go (follows x) refl
  where
    go : (b : Bool) → follows x ≡ b → eqb (x / 64) 2 ≡ b
    go true e = let b = bounds 0x80 0xBF x e in eq-eqb (x / 64) 2 (omega arith)
    go false e = ne_eqb (x / 64) 2 (λ q. true≢false (sym (inside 0x80 0xBF x (omega arith) (omega arith)) ∙ e))

-- none stands past the end
pub follows_inside : (t : List ℕ) (p : ℕ) → follows (get_or t p 0) ≡ true → p < length t
follows_inside t p f = go (ltb p (length t)) refl
  where
    go : (b : Bool) → ltb p (length t) ≡ b → p < length t
    go true e = ltb-true p (length t) e
    go false e = absurd (let b = bounds 0x80 0xBF (get_or t p 0) f in omega (arith, string_past t p (ltb-false p (length t) e)))

module _ (t : List ℕ) (p : ℕ) where
  pub past_none : follows (get_or t p 0) ≡ false → p ≡ past_at t p
  unfolding past_at past_by
  past_none a = rw a

  module _ (a : follows (get_or t p 0) ≡ true) where
    pub past_one : follows (get_or t (p + 1) 0) ≡ false → p + 1 ≡ past_at t p
    unfolding past_at past_by
    past_one b = rw (a, ← add-one p, b)

    module _ (b : follows (get_or t (p + 1) 0) ≡ true) where
      pub past_two : follows (get_or t (p + 2) 0) ≡ false → p + 2 ≡ past_at t p
      unfolding past_at past_by
      past_two c = let e : suc (p + 1) ≡ p + 2 = omega arith in rw (a, ← add-one p, b, e, c)

      pub past_three : follows (get_or t (p + 2) 0) ≡ true → p + 3 ≡ past_at t p
      unfolding past_at past_by
      past_three c =
          let e : suc (p + 1) ≡ p + 2 = omega arith in
          let f : suc (p + 2) ≡ p + 3 = omega arith in
          rw (a, ← add-one p, b, e, c, f)

pub past_from : (t : List ℕ) (p n : ℕ) → p ≤ past_by t p n
unfolding past_by
past_from t p zero = omega arith
past_from t p (suc n) = go (follows (get_or t p 0)) (past_from t (suc p) n)
  where
    go : (b : Bool) → suc p ≤ past_by t (suc p) n → p ≤ choose b (past_by t (suc p) n) p
    go true h = omega arith
    go false h = omega arith

-- what the answer is at a place past them
unfoldable pub judged : ℕ → List ℕ → Bool
judged s l = choose (eqb s 6) (good_from l) (eqb s 54)

-- where the next byte doesn't follow, no sequence goes on
within_not : (lo hi x : ℕ) → 0x80 ≤ lo → hi ≤ 0xBF → follows x ≡ false → within lo hi x ≡ false
within_not lo hi x p q f = go (within lo hi x) refl
  where
    go : (b : Bool) → within lo hi x ≡ b → b ≡ false
    go true e = let b = bounds lo hi x e in absurd (true≢false (sym (inside 0x80 0xBF x (omega arith) (omega arith)) ∙ f))
    go false e = refl

stuck : {s : ℕ} (l : List ℕ) → State s → follows (get_or l 0 0) ≡ false → good_in s l ≡ judged s l
unfolding good_in rest_of resumed judged
stuck l bad f = refl
stuck l between f = refl
stuck [] one f = refl
stuck (x ∷ l) one f = rw (within_not 0x80 0xBF x (omega arith) (omega arith) f)
stuck [] two f = refl
stuck (x ∷ l) two f = rw (within_not 0x80 0xBF x (omega arith) (omega arith) f)
stuck [] three f = refl
stuck (x ∷ l) three f = rw (within_not 0x80 0xBF x (omega arith) (omega arith) f)
stuck [] after_e0 f = refl
stuck (x ∷ l) after_e0 f = rw (within_not 0xA0 0xBF x (omega arith) (omega arith) f)
stuck [] after_ed f = refl
stuck (x ∷ l) after_ed f = rw (within_not 0x80 0x9F x (omega arith) (omega arith) f)
stuck [] after_f0 f = refl
stuck (x ∷ l) after_f0 f = rw (within_not 0x90 0xBF x (omega arith) (omega arith) f)
stuck [] after_f4 f = refl
stuck (x ∷ l) after_f4 f = rw (within_not 0x80 0x8F x (omega arith) (omega arith) f)
stuck l done f = refl

-- with no range left a state is none inside a sequence
whole : {s : ℕ} (l : List ℕ) → State s → length (rest_of s) ≤ 0 → good_in s l ≡ judged s l
unfolding good_in rest_of resumed judged
whole l bad h = refl
whole l between h = refl
whole l one h = absurd (omega arith)
whole l two h = absurd (omega arith)
whole l three h = absurd (omega arith)
whole l after_e0 h = absurd (omega arith)
whole l after_ed h = absurd (omega arith)
whole l after_f0 h = absurd (omega arith)
whole l after_f4 h = absurd (omega arith)
whole l done h = refl

three_most : {s : ℕ} → State s → length (rest_of s) ≤ 3
unfolding rest_of
three_most bad = omega arith
three_most between = omega arith
three_most one = omega arith
three_most two = omega arith
three_most three = omega arith
three_most after_e0 = omega arith
three_most after_ed = omega arith
three_most after_f0 = omega arith
three_most after_f4 = omega arith
three_most done = omega arith

-- each byte that follows takes a range away
fewer_or : (b : Bool) (s n : ℕ) → length (rest_of s) ≤ n → length (rest_of (choose b s 0)) ≤ n
fewer_or true s n h = h
fewer_or false s n h = unfold rest_of in omega arith

fewer : {s : ℕ} (x n : ℕ) → State s → follows x ≡ true → length (rest_of s) ≤ suc n → length (rest_of (step x s)) ≤ n
unfolding rest_of step onward begin
fewer x n bad f h = omega arith
fewer x n between f h =
    let b = bounds 0x80 0xBF x f in
    rw (ne_eqb x 0 (λ e. omega arith), le-ltb x 0x80 (omega arith), lt-ltb x 0xC2 (omega arith)) (omega arith)
fewer x n one f h = fewer_or (within 0x80 0xBF x) 6 n (omega arith)
fewer x n two f h = fewer_or (within 0x80 0xBF x) 12 n (omega arith)
fewer x n three f h = fewer_or (within 0x80 0xBF x) 18 n (omega arith)
fewer x n after_e0 f h = fewer_or (within 0xA0 0xBF x) 12 n (omega arith)
fewer x n after_ed f h = fewer_or (within 0x80 0x9F x) 12 n (omega arith)
fewer x n after_f0 f h = fewer_or (within 0x90 0xBF x) 18 n (omega arith)
fewer x n after_f4 f h = fewer_or (within 0x80 0x8F x) 18 n (omega arith)
fewer x n done f h = omega arith

stops : (t : List ℕ) (p n : ℕ) {s : ℕ} → State s → length (rest_of s) ≤ n
    → good_in (ran t p (past_by t p n - p) s) (drop (past_by t p n) t) ≡ judged (ran t p (past_by t p n - p) s) (drop (past_by t p n) t)
unfolding past_by ran
stops t p zero {s} k h = let z : p - p ≡ 0 = omega arith in rw z (whole (drop p t) k h)
stops t p (suc n) {s} k h = go (follows (get_or t p 0)) refl (λ f. stops t (suc p) n (step_state (get_or t p 0) k) (fewer (get_or t p 0) n k f h))
  where
    go : (b : Bool) → follows (get_or t p 0) ≡ b
        → (b ≡ true
        → good_in (ran t (suc p) (past_by t (suc p) n - suc p) (step (get_or t p 0) s)) (drop (past_by t (suc p) n) t)
        ≡ judged (ran t (suc p) (past_by t (suc p) n - suc p) (step (get_or t p 0) s)) (drop (past_by t (suc p) n) t))
        → good_in (ran t p (choose b (past_by t (suc p) n) p - p) s) (drop (choose b (past_by t (suc p) n) p) t)
        ≡ judged (ran t p (choose b (past_by t (suc p) n) p - p) s) (drop (choose b (past_by t (suc p) n) p) t)
    go true f r =
        let l = past_from t (suc p) n in
        let z : past_by t (suc p) n - p ≡ suc (past_by t (suc p) n - suc p) = omega arith in
        rw z (r refl)
    go false f r =
        let z : p - p ≡ 0 = omega arith in
        let e : get_or (drop p t) 0 0 ≡ get_or t p 0 = get_or-drop p t 0 0 ∙ rw (add-zero p) in
        rw z (stuck (drop p t) k (rw e f))

module _ (t : List ℕ) (o to p r : ℕ) (h : o ≤ to) (l : to ≤ length t) (q : p ≡ past_at t to) (m : p ≤ length t) (g : r ≡ ran t o (p - o) 6) where
  -- the state at the place itself
  s : ℕ
  s = ran t o (to - o) 6

  known : State s
  unfolding s
  known = ran_state t o (to - o) between

  on : r ≡ ran t to (p - to) s
  unfolding past_at s
  on =
      let a : o + (to - o) ≡ to = omega arith in
      let c : p - o ≡ to - o + (p - to) = omega (arith, past_from t to 3) in
      g ∙ rw c (ran_join t o (to - o) (p - to) 6 ∙ rw a)

  good_there : string_good t o ≡ judged r (drop p t)
  unfolding past_at s
  good_there =
      let a : o + (to - o) ≡ to = omega arith in
      let c : to + (p - to) ≡ p = omega (arith, past_from t to 3) in
      let u : good_in s (drop to t) ≡ good_in 6 (drop o t) = rw a at (ran_good t o (to - o) between (omega arith)) in
      let v : good_in r (drop p t) ≡ good_in s (drop to t) = rw (← on, c) at (ran_good t to (p - to) known (omega arith)) in
      let w : good_in r (drop p t) ≡ judged r (drop p t) = rw (← q, ← on) at (stops t to 3 known (three_most known)) in
      good_between t o ∙ sym u ∙ sym v ∙ w

  pub by_next : (next : Bool) → next ≡ flag t to → r ≡ 6 → next ≡ string_good t o
  unfolding flag judged
  by_next next f z =
      let a : flag t to ≡ good_from (drop p t) = rw (← q) (string_from t p) in
      let b : string_good t o ≡ good_from (drop p t) = rw z at good_there in
      f ∙ a ∙ sym b

  pub by_state : (r ≡ 6 → ⊥) → eqb r 54 ≡ string_good t o
  unfolding judged
  by_state f = sym (rw (ne_eqb r 6 f) at good_there)

-- past the end no string goes on
pub flag_past : (t : List ℕ) (p : ℕ) → length t ≤ p → flag t p ≡ false
unfolding flag past_at past_by
flag_past t p h = rw (string_past t p h) (good_past t p h)

-- ---- a string of bytes below 0x80
-- past a string stands a zero byte, or nothing
until_stops : (l : List ℕ) → get_or l (length (until_zero l)) 0 ≡ 0
unfolding until_zero
until_stops [] = refl
until_stops (zero ∷ l) = refl
until_stops (suc x ∷ l) = until_stops l

module _ (t : List ℕ) (o n : ℕ) (h : o ≤ length t) (e : n ≡ length (string_at t o)) where
  pub string_fits : o + n ≤ length t
  string_fits = (string_is t o n e h).0

  ends : string_ends t o ≡ ltb (o + n) (length t)
  ends = rw e (ends_length t o)

  pub good_unended : length t ≤ o + n → false ≡ string_good t o
  unfolding string_good
  good_unended l = sym (rw (ends, le-ltb (o + n) (length t) l))

  pub zero_past : get_or t (o + n) 0 ≡ 0
  unfolding string_at
  zero_past = rw (e, ← get_or-drop o t (length (until_zero (drop o t))) 0) (until_stops (drop o t))

  pub good_plain : o + n < length t → PlainFrom (take n (drop o t)) 0 → true ≡ string_good t o
  unfolding string_good
  good_plain l f = sym (rw (ends, lt-ltb (o + n) (length t) l, (string_is t o n e h).1) (plain_well (take n (drop o t)) f))
