-- The machine judges a string as its definition does: what each state stands for, and that a step keeps it.
-- Assumes nothing.
use Prim.Native.Nat.{ℕ, zero, suc, ◌+◌, ◌≤◌, ◌<◌}
use mathlib.Core.Path.{◌≡◌, refl, sym, ◌∙◌, ap}
use mathlib.Core.Bool.{Bool, true, false, ◌&&◌, true≢false}
use mathlib.Core.List.{List, [], ◌∷◌}
use native.Mathlib.Omega.{arith}
use native.Mathlib.Nat.{add-zero}
use lib.Dec.{ltb, eqb}
use lib.ListN.{length, get_or, drop, drop_of_length-le}
use lib.Seq.{drop-cons}
use borrow.Author.Tests.{le-ltb, ltb-true, ltb-false, eqb-true, ne_eqb}
use Rattle.wire.specs.Choice.{choose}
use Rattle.wire.proofs.Choices.{both}
use Rattle.utf8_layout.specs.Sequence.{Range, ◌to◌, table, within, fits, front, after, counted, is_whole, well_formed}
use Rattle.utf8_layout.proofs.Joined.{whole_more}
use Rattle.utf8_layout.proofs.Rows.{Row, none, rest, row_for, front_of, front_for, front_length, table_rising, below, above}
use Rattle.psv0_layout.specs.Reference.{has_zero, until_zero, string_ends, string_at, string_good}
use Rattle.psv0_layout.proofs.References.{and_false}
use Rattle.utf8.specs.Machine.{State, bad, between, one, two, three, after_e0, after_ed, after_f0, after_f4, done, rest_of, good_from, resumed, good_in, begin, onward, step, ran}
use Rattle.utf8.specs.declared.TheConstants.{ROWS}
use Rattle.utf8.proofs.Table.{at}

-- ---- strings as lists
and_assoc : (a b c : Bool) → (a && (b && c)) ≡ ((a && b) && c)
and_assoc true b c = refl
and_assoc false b c = refl

pub string_from : (t : List ℕ) (o : ℕ) → string_good t o ≡ good_from (drop o t)
unfolding string_good string_ends string_at good_from
string_from t o = go (ltb o (length t)) refl
  where
    go : (s : Bool) → ltb o (length t) ≡ s → ((s && has_zero (drop o t)) && well_formed (until_zero (drop o t))) ≡ (has_zero (drop o t) && well_formed (until_zero (drop o t)))
    go true e = refl
    go false e = unfold has_zero in rw (drop_of_length-le t {i = o} (ltb-false o (length t) e))

-- no range holds zero, and none past the first of any row does
solid : List Range → Bool
solid [] = true
solid (lo to hi ∷ rs) = ltb 0 lo && solid rs

solids : List (List Range) → Bool
solids [] = true
solids ([] ∷ rows) = false
solids ((r ∷ rs) ∷ rows) = solid rs && solids rows

table_solid : solids table ≡ true
unfolding solids solid table
table_solid = refl

-- so the bytes from the first zero on don't count
fits_until : (rs : List Range) (l : List ℕ) → solid rs ≡ true → fits rs (until_zero l) ≡ fits rs l
unfolding fits solid until_zero
fits_until [] l s = refl
fits_until (r ∷ rs) [] s = refl
fits_until (lo to hi ∷ rs) (zero ∷ l) s = rw (below lo hi 0 (ltb-true 0 lo (both (ltb 0 lo) (solid rs) s).0))
fits_until (lo to hi ∷ rs) (suc x ∷ l) s = rw (fits_until rs l (both (ltb 0 lo) (solid rs) s).1)

front_until : (rows : List (List Range)) (x : ℕ) (l : List ℕ) → solids rows ≡ true → front rows (x ∷ until_zero l) ≡ front rows (x ∷ l)
unfolding front fits solids
front_until [] x l s = refl
front_until ([] ∷ rows) x l s = refl
front_until ((lo to hi ∷ rs) ∷ rows) x l s =
    let b = both (solid rs) (solids rows) s in
    rw (fits_until rs l b.0, front_until rows x l b.1)

-- a sequence of a length, 0 for none, and what follows it
unfoldable skipped : ℕ → (ℕ → Bool) → Bool
skipped zero f = false
skipped (suc k) f = f k

-- whether the sequences from k bytes on go up to a zero byte
unfoldable walked : List ℕ → ℕ → Bool
walked [] k = false
walked (x ∷ l) (suc k) = walked l k
walked (zero ∷ l) zero = true
walked (suc x ∷ l) zero = skipped (front table (suc x ∷ l)) (λ k. walked l k)

walked_is : (l : List ℕ) (k : ℕ) → k ≤ length (until_zero l) → (has_zero l && is_whole (counted (until_zero l) k)) ≡ walked l k
unfolding walked counted has_zero until_zero
walked_is [] k h = refl
walked_is (zero ∷ l) zero h = refl
walked_is (zero ∷ l) (suc k) h = absurd (omega arith)
walked_is (suc x ∷ l) (suc k) h = walked_is l k (omega arith)
walked_is (suc x ∷ l) zero h =
    rw (front_until table (suc x) l table_solid)
    (go (front table (suc x ∷ l))
    (rw (front_until table (suc x) l table_solid) at (front_length table (suc x ∷ until_zero l)))
    (λ k. walked_is l k))
  where
    go : (m : ℕ) → m ≤ suc (length (until_zero l))
        → ((k : ℕ) → k ≤ length (until_zero l) → (has_zero l && is_whole (counted (until_zero l) k)) ≡ walked l k)
        → (has_zero l && is_whole (after m (λ k. counted (until_zero l) k))) ≡ skipped m (λ k. walked l k)
    go zero q f = unfold after skipped in and_false (has_zero l)
    go (suc k) q f = unfold after skipped in rw (whole_more (counted (until_zero l) k)) (f k (omega arith))

resumed_is : (rs : List Range) (l : List ℕ) → resumed rs l ≡ (fits rs l && walked l (length rs))
unfolding resumed fits walked
resumed_is [] l = unfold good_from well_formed in walked_is l 0 (omega arith)
resumed_is (r ∷ rs) [] = refl
resumed_is (lo to hi ∷ rs) (x ∷ l) = rw (resumed_is rs l) (and_assoc (within lo hi x) (fits rs l) (walked l (length rs)))

-- ---- what a first byte settles
unfoldable settled : Row → List ℕ → Bool
settled none l = false
settled (rest rs) l = resumed rs l

good_row : (x : ℕ) (l : List ℕ) → good_from (suc x ∷ l) ≡ settled (row_for table (suc x)) l
unfolding good_from well_formed
good_row x l = walked_is (suc x ∷ l) 0 (omega arith) ∙ unfold walked in rw (front_for 0 table (suc x) l table_rising) (go (row_for table (suc x)))
  where
    fit : (t : Bool) (k : ℕ) → skipped (choose t (suc k) 0) (λ k. walked l k) ≡ (t && walked l k)
    fit true k = unfold skipped in refl
    fit false k = unfold skipped in refl

    go : (r : Row) → skipped (front_of r l) (λ k. walked l k) ≡ settled r l
    go none = unfold front_of skipped settled in refl
    go (rest rs) = unfold front_of settled in (fit (fits rs l) (length rs) ∙ sym (resumed_is rs l))

-- the row of a state, and that a first byte settles the row of the state after it
row_of : ℕ → Row
row_of s = choose (eqb s 0) none (rest (rest_of s))

same_ranges : List Range → List Range → Bool
same_ranges [] [] = true
same_ranges [] (q ∷ qs) = false
same_ranges (r ∷ rs) [] = false
same_ranges (a to b ∷ rs) (c to d ∷ qs) = (eqb a c && eqb b d) && same_ranges rs qs

same_row : Row → Row → Bool
same_row none none = true
same_row none (rest qs) = false
same_row (rest rs) none = false
same_row (rest rs) (rest qs) = same_ranges rs qs

same_ranges_lem : (rs qs : List Range) → same_ranges rs qs ≡ true → rs ≡ qs
unfolding same_ranges
same_ranges_lem [] [] h = refl
same_ranges_lem [] (q ∷ qs) h = absurd (true≢false (sym h))
same_ranges_lem (r ∷ rs) [] h = absurd (true≢false (sym h))
same_ranges_lem (a to b ∷ rs) (c to d ∷ qs) h =
    let e = both (eqb a c && eqb b d) (same_ranges rs qs) h in
    let f = both (eqb a c) (eqb b d) e.0 in
    rw (eqb-true a c f.0, eqb-true b d f.1, same_ranges_lem rs qs e.1)

same_row_lem : (r q : Row) → same_row r q ≡ true → r ≡ q
unfolding same_row
same_row_lem none none h = refl
same_row_lem none (rest qs) h = absurd (true≢false (sym h))
same_row_lem (rest rs) none h = absurd (true≢false (sym h))
same_row_lem (rest rs) (rest qs) h = ap rest (same_ranges_lem rs qs h)

row_test : ℕ → ℕ → Bool
row_test a x = same_row (row_for table a) (row_of (begin a))

row_byte : (a : ℕ) → a < 256 → row_for table a ≡ row_of (begin a)
unfolding row_test same_row same_ranges row_of row_for table begin rest_of
row_byte a h = same_row_lem (row_for table a) (row_of (begin a)) (at row_test ROWS refl a h)

row_past : (a : ℕ) → 256 ≤ a → row_for table a ≡ row_of (begin a)
unfolding row_of row_for table begin
row_past a h =
    simp (
      above 0x00 0x7F a (omega arith) (omega arith),
      above 0xC2 0xDF a (omega arith) (omega arith),
      above 0xE0 0xE0 a (omega arith) (omega arith),
      above 0xE1 0xEC a (omega arith) (omega arith),
      above 0xED 0xED a (omega arith) (omega arith),
      above 0xEE 0xEF a (omega arith) (omega arith),
      above 0xF0 0xF0 a (omega arith) (omega arith),
      above 0xF1 0xF3 a (omega arith) (omega arith),
      above 0xF4 0xF4 a (omega arith) (omega arith),
      ne_eqb a 0 (λ e. omega arith),
      le-ltb a 0x80 (omega arith),
      le-ltb a 0xC2 (omega arith),
      le-ltb a 0xE0 (omega arith),
      ne_eqb a 0xE0 (λ e. omega arith),
      ne_eqb a 0xED (λ e. omega arith),
      le-ltb a 0xF0 (omega arith),
      ne_eqb a 0xF0 (λ e. omega arith),
      le-ltb a 0xF4 (omega arith),
      ne_eqb a 0xF4 (λ e. omega arith),
    )

row_begin : (a : ℕ) → row_for table a ≡ row_of (begin a)
row_begin a = go (ltb a 256) refl
  where
    go : (s : Bool) → ltb a 256 ≡ s → row_for table a ≡ row_of (begin a)
    go true e = row_byte a (ltb-true a 256 e)
    go false e = row_past a (ltb-false a 256 e)

-- ---- one step
-- what holds of each state that a first byte can begin
begun : (P : ℕ → Type 0) (a : ℕ) → (a ≡ 0 → P 54) → P 0 → P 6 → P 12 → P 18 → P 24 → P 30 → P 36 → P 42 → P 48 → P (begin a)
unfolding begin
begun P a p54 p0 p6 p12 p18 p24 p30 p36 p42 p48 =
    first (eqb a 0) refl
    (or (ltb a 0x80) p6
    (or (ltb a 0xC2) p0
    (or (ltb a 0xE0) p12
    (or (eqb a 0xE0) p30
    (or (eqb a 0xED) p36
    (or (ltb a 0xF0) p18
    (or (eqb a 0xF0) p42
    (or (ltb a 0xF4) p24
    (or (eqb a 0xF4) p48 p0)))))))))
  where
    or : (b : Bool) {r s : ℕ} → P r → P s → P (choose b r s)
    or true p q = p
    or false p q = q

    first : (b : Bool) → eqb a 0 ≡ b → {s : ℕ} → P s → P (choose b 54 s)
    first true e p = p54 (eqb-true a 0 e)
    first false e p = p

either : (b : Bool) {s : ℕ} → State s → State (choose b s 0)
either true p = p
either false p = bad

pub step_state : (a : ℕ) {s : ℕ} → State s → State (step a s)
unfolding step onward
step_state a bad = bad
step_state a between = begun State a (λ e. done) bad between one two three after_e0 after_ed after_f0 after_f4
step_state a one = either (within 0x80 0xBF a) between
step_state a two = either (within 0x80 0xBF a) one
step_state a three = either (within 0x80 0xBF a) two
step_state a after_e0 = either (within 0xA0 0xBF a) one
step_state a after_ed = either (within 0x80 0x9F a) one
step_state a after_f0 = either (within 0x90 0xBF a) two
step_state a after_f4 = either (within 0x80 0x8F a) two
step_state a done = done

begin_good : (a : ℕ) (l : List ℕ) → good_from (a ∷ l) ≡ good_in (begin a) l
begin_good zero l = unfold good_from has_zero until_zero well_formed counted good_in begin in refl
begin_good (suc x) l = good_row x l ∙ rw (row_begin (suc x)) (unfold settled row_of good_in rest_of resumed in
    begun (λ s. settled (row_of s) l ≡ good_in s l) (suc x) (λ e. absurd (omega arith)) refl refl refl refl refl refl refl refl refl)

onward_good : (b : Bool) (s : ℕ) (l : List ℕ) → (b && good_in s l) ≡ good_in (choose b s 0) l
unfolding good_in
onward_good true s l = refl
onward_good false s l = refl

pub step_good : (a : ℕ) (l : List ℕ) {s : ℕ} → State s → good_in s (a ∷ l) ≡ good_in (step a s) l
unfolding good_in step onward rest_of resumed
step_good a l bad = refl
step_good a l between = begin_good a l
step_good a l one = onward_good (within 0x80 0xBF a) 6 l
step_good a l two = onward_good (within 0x80 0xBF a) 12 l
step_good a l three = onward_good (within 0x80 0xBF a) 18 l
step_good a l after_e0 = onward_good (within 0xA0 0xBF a) 12 l
step_good a l after_ed = onward_good (within 0x80 0x9F a) 12 l
step_good a l after_f0 = onward_good (within 0x90 0xBF a) 18 l
step_good a l after_f4 = onward_good (within 0x80 0x8F a) 18 l
step_good a l done = refl

-- ---- many steps
module _ (t : List ℕ) where
  pub ran_state : (p n : ℕ) {s : ℕ} → State s → State (ran t p n s)
  unfolding ran
  ran_state p zero h = h
  ran_state p (suc n) h = ran_state (suc p) n (step_state (get_or t p 0) h)

  pub ran_more : (p n s : ℕ) → ran t p (suc n) s ≡ step (get_or t (p + n) 0) (ran t p n s)
  unfolding ran
  ran_more p zero s = rw (add-zero p)
  ran_more p (suc n) s = let e : suc p + n ≡ p + suc n = omega arith in ran_more (suc p) n (step (get_or t p 0) s) ∙ rw e

  -- a run and then another
  pub ran_join : (p n m s : ℕ) → ran t p (n + m) s ≡ ran t (p + n) m (ran t p n s)
  unfolding ran
  ran_join p zero m s =
      let e : 0 + m ≡ m = omega arith in
      rw (e, add-zero p)
  ran_join p (suc n) m s =
      let e : suc n + m ≡ suc (n + m) = omega arith in
      let f : suc p + n ≡ p + suc n = omega arith in
      rw e (ran_join (suc p) n m (step (get_or t p 0) s) ∙ rw f)

  pub ran_good : (p n : ℕ) {s : ℕ} → State s → p + n ≤ length t → good_in (ran t p n s) (drop (p + n) t) ≡ good_in s (drop p t)
  unfolding ran
  ran_good p zero h l = rw (add-zero p)
  ran_good p (suc n) {s} h l =
      let e : suc p + n ≡ p + suc n = omega arith in
      let g = ran_good (suc p) n (step_state (get_or t p 0) h) (omega arith) in
      rw (e) at g ∙ rw (drop-cons t p 0 (omega arith)) (sym (step_good (get_or t p 0) (drop (suc p) t) h))
