-- The code's table: the six bits of a state in the row of a byte are the state after that byte.
-- Assumes nothing.
use mathlib.Core.Path.{◌≡◌, refl, sym, ◌∙◌}
use mathlib.Core.Bool.{Bool}
use mathlib.Core.List.{List}
use Prim.Native.Nat.{ℕ, suc, ◌+◌, ◌-◌, ◌/◌, ◌%◌, ◌^◌, ◌≤◌, ◌<◌}
use native.Mathlib.Omega.{arith}
use lib.Dec.{eqb}
use lib.ListN.{get_or}
use borrow.Author.Tests.{eqb-true}
use Rattle.utf8.specs.Machine.{State, bad, between, one, two, three, after_e0, after_ed, after_f0, after_f4, done, begin, onward, step, ran}
use Rattle.utf8.specs.declared.TheConstants.{ROWS}
use Rattle.utf8.proofs.Machine.{step_state, ran_more}
use Rattle.utf8.proofs.Table.{at}

-- the row x of a byte a is right in a state
right : ℕ → ℕ → ℕ → Bool
right s a x = eqb (x / (2 ^ s) % 64) (step a s)

module _ (a : ℕ) (h : a < 256) where
  pub row_right : {s : ℕ} → State s → get_or ROWS a 0 / (2 ^ s) % 64 ≡ step a s
  unfolding right step begin onward
  row_right bad = eqb-true _ _ (at (right 0) ROWS refl a h)
  row_right between = eqb-true _ _ (at (right 6) ROWS refl a h)
  row_right one = eqb-true _ _ (at (right 12) ROWS refl a h)
  row_right two = eqb-true _ _ (at (right 18) ROWS refl a h)
  row_right three = eqb-true _ _ (at (right 24) ROWS refl a h)
  row_right after_e0 = eqb-true _ _ (at (right 30) ROWS refl a h)
  row_right after_ed = eqb-true _ _ (at (right 36) ROWS refl a h)
  row_right after_f0 = eqb-true _ _ (at (right 42) ROWS refl a h)
  row_right after_f4 = eqb-true _ _ (at (right 48) ROWS refl a h)
  row_right done = eqb-true _ _ (at (right 54) ROWS refl a h)

-- a state is a shift of a word
pub state_small : {s : ℕ} → State s → s < 64
state_small bad = omega arith
state_small between = omega arith
state_small one = omega arith
state_small two = omega arith
state_small three = omega arith
state_small after_e0 = omega arith
state_small after_ed = omega arith
state_small after_f0 = omega arith
state_small after_f4 = omega arith
state_small done = omega arith

-- ---- a run, byte by byte
pub run_begin : (t : List ℕ) (p s : ℕ) → s ≡ ran t p (p - p) s
unfolding ran
run_begin t p s = let z : p - p ≡ 0 = omega arith in rw z

pub run_more : (t : List ℕ) (from p state s : ℕ) → from ≤ p → get_or t p 0 < 256 → s ≡ ran t from (p - from) state → State s
    → (get_or ROWS (get_or t p 0) 0 / (2 ^ s) % 64 ≡ ran t from (p + 1 - from) state) × State (get_or ROWS (get_or t p 0) 0 / (2 ^ s) % 64)
run_more t from p state s l b e k =
    let a = row_right (get_or t p 0) b k in
    let n : p + 1 - from ≡ suc (p - from) = omega arith in
    let q : from + (p - from) ≡ p = omega arith in
    let m : ran t from (suc (p - from)) state ≡ step (get_or t p 0) s = rw (q, ← e) at (ran_more t from (p - from) state) in
    (a ∙ sym (rw n m), rw a (step_state (get_or t p 0) k))
