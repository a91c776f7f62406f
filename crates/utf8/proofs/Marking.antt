-- The flags of blocks and the marks that hold them.
-- Assumes nothing.
use Prim.Native.Nat.{ℕ, zero, suc, ◌+◌, ◌-◌, ◌*◌, ◌/◌, ◌%◌, ◌^◌, ◌≤◌, ◌<◌}
use mathlib.Core.Path.{◌≡◌, refl, ◌∙◌}
use mathlib.Core.Bool.{Bool, true, false}
use mathlib.Core.List.{List}
use native.Mathlib.Omega.{arith}
use native.Mathlib.Nat.{pow-le-pow_right}
use lib.Dec.{eqb}
use mir.Val.{bool_byte}
use lib.ListN.{length, get_or, set}
use lib.Seq.{get_or-set_same, get_or-set_other}
use borrow.Author.Tests.{eq-eqb, ne_eqb, eqb-true, eqb-false}
use Rattle.psv0_layout.specs.Reference.{string_good}
use Rattle.utf8.specs.Marks.{past_at, flag, bit, mark_of, Marked}

-- ---- flags
pub flag_read : (t : List ℕ) (p o : ℕ) (r : Bool) → o ≡ past_at t p → r ≡ string_good t o → r ≡ flag t p
unfolding flag
flag_read t p o r q e = rw (← q) e

-- the next block's flag is that of the place 32 on
pub flag_next : (t : List ℕ) (p k : ℕ) {r : Bool} → r ≡ flag t (p + (k + 32)) → r ≡ flag t (p + k + 32)
flag_next t p k h = let e : p + k + 32 ≡ p + (k + 32) = omega arith in rw e h

-- ---- bits
bit_small : (b : Bool) → bit b ≤ 1
bit_small true = omega arith
bit_small false = omega arith

bit_test : (b : Bool) (n : ℕ) → n ≡ bit b → eqb n 1 ≡ b
bit_test true n q = eq-eqb n 1 q
bit_test false n q = ne_eqb n 1 (λ e. omega arith)

-- the eight bits of a mark
module _ (t : List ℕ) (p : ℕ) where
  near : bit (flag t p) ≤ 1
  near = bit_small (flag t p)

  far : (k : ℕ) → bit (flag t (p + k)) ≤ 1
  far k = bit_small (flag t (p + k))

  bit_at : (k : ℕ) (b : Bool) → mark_of t p / (2 ^ k) % 2 ≡ bit b → eqb (mark_of t p / (2 ^ k) % 2) 1 ≡ b
  bit_at k b e = bit_test b (mark_of t p / (2 ^ k) % 2) e

  pub mark_bit : (k : ℕ) → k < 8 → eqb (mark_of t p / (2 ^ k) % 2) 1 ≡ flag t (p + 32 * k)
  unfolding mark_of
  mark_bit zero l = let q : p + 32 * 0 ≡ p = omega arith in rw q (bit_at 0 (flag t p) (omega (arith, near)))
  mark_bit (suc zero) l = bit_at 1 (flag t (p + 32)) (omega (arith, near, far 32))
  mark_bit (suc (suc zero)) l = bit_at 2 (flag t (p + 64)) (omega (arith, near, far 32, far 64))
  mark_bit (suc (suc (suc zero))) l = bit_at 3 (flag t (p + 96)) (omega (arith, near, far 32, far 64, far 96))
  mark_bit (suc (suc (suc (suc zero)))) l = bit_at 4 (flag t (p + 128)) (omega (arith, near, far 32, far 64, far 96, far 128))
  mark_bit (suc (suc (suc (suc (suc zero))))) l = bit_at 5 (flag t (p + 160)) (omega (arith, near, far 32, far 64, far 96, far 128, far 160))
  mark_bit (suc (suc (suc (suc (suc (suc zero)))))) l = bit_at 6 (flag t (p + 192)) (omega (arith, near, far 32, far 64, far 96, far 128, far 160, far 192))
  mark_bit (suc (suc (suc (suc (suc (suc (suc zero))))))) l = bit_at 7 (flag t (p + 224)) (omega (arith, near, far 32, far 64, far 96, far 128, far 160, far 192, far 224))
  mark_bit (suc (suc (suc (suc (suc (suc (suc (suc k)))))))) l = absurd (omega arith)

  pub mark_first : (m : ℕ) → m ≡ mark_of t p → eqb (m % 2) 1 ≡ flag t p
  unfolding mark_of
  mark_first m q = bit_test (flag t p) (m % 2) (omega (arith, near))

byte_bit : (b : Bool) → bool_byte b ≡ bit b
byte_bit true = refl
byte_bit false = refl

pub byte_small : (b : Bool) → bool_byte b ≤ 1
byte_small true = omega arith
byte_small false = omega arith

-- the flags of n blocks from block k on, as a loop that goes down puts them together
unfoldable pub upper : List ℕ → ℕ → ℕ → ℕ → ℕ
upper t p zero k = 0
upper t p (suc n) k = upper t p n (suc k) * 2 + bit (flag t (p + 32 * k))

module _ (t : List ℕ) (p : ℕ) where
  pub upper_small : (n k : ℕ) → upper t p n k < 2 ^ n
  unfolding upper
  upper_small zero k = omega arith
  upper_small (suc n) k =
      let h = upper_small n (suc k) in
      let b = bit_small (flag t (p + 32 * k)) in
      let e : 2 ^ suc n ≡ 2 ^ n * 2 = omega arith in
      omega arith

  -- one block more in front of fewer than eight
  module _ (k m : ℕ) (h : 0 < k) (e : m ≡ upper t p (8 - k) k) (l : k ≤ 8) where
    pub upper_half : m < 128
    upper_half =
        let w : 8 - k ≤ 7 = omega arith in
        let q : 2 ^ (8 - k) ≤ 2 ^ 7 = pow-le-pow_right {n = 2} (omega arith) w in omega (arith, upper_small (8 - k) k)

    pub upper_next : (f : Bool) → f ≡ flag t (p + 32 * (k - 1)) → m * 2 + bool_byte f ≡ upper t p (8 - (k - 1)) (k - 1)
    unfolding upper
    upper_next f q =
        let a : 8 - (k - 1) ≡ suc (8 - k) = omega arith in
        let b : suc (k - 1) ≡ k = omega arith in
        rw (a, b, ← e, ← q, byte_bit)

  pub upper_all : upper t p 8 0 ≡ mark_of t p
  unfolding upper mark_of
  upper_all = let z : p + 32 * 0 ≡ p = omega arith in rw z (omega arith)

-- ---- marks
-- what a mark's flag is, where the marks are right
pub marked_flag : (t marks : List ℕ) (i n j k : ℕ) → Marked t marks i n → i ≤ j → j < n → k < 8 → (p : ℕ) → p ≡ j * 256 + 32 * k
    → eqb (get_or marks j 0 / (2 ^ k) % 2) 1 ≡ flag t p
marked_flag t marks i n j k m g h l p q = rw (m.told j g h, q) (mark_bit t (j * 256) k l)

-- fewer of them
pub marked_later : (t marks : List ℕ) (i j n : ℕ) → Marked t marks i n → i ≤ j → Marked t marks j n
marked_later t marks i j n m h = record { told = λ k a b. m.told k (omega arith) b }

-- a loop that goes down: none yet, and one mark in front of the others
pub marked_begin : (t marks : List ℕ) (n : ℕ) → Marked t marks n n
marked_begin t marks n = record { told = λ j a b. absurd (omega arith) }

pub marked_back : (t marks : List ℕ) (i j n v : ℕ) → Marked t marks j n → j ≡ i + 1 → i < length marks → v ≡ mark_of t (i * 256)
    → Marked t (set marks i v) i n
marked_back t marks i j n v m q h e = record { told = λ k a b. go k a b (eqb k i) refl }
  where
    go : (k : ℕ) → i ≤ k → k < n → (s : Bool) → eqb k i ≡ s → get_or (set marks i v) k 0 ≡ mark_of t (k * 256)
    go k a b true z = let w = eqb-true k i z in rw w (get_or-set_same marks i v 0 h ∙ e)
    go k a b false z =
        let w = eqb-false k i z in
        get_or-set_other marks i k v 0 w ∙ m.told k (omega arith) b
