-- Two lists that are alike in a stretch, or from a place on.
-- Assumes nothing.
use Prim.Native.Nat.{ℕ, ◌+◌, ◌-◌, ◌≤◌}
use mathlib.Core.Path.{◌≡◌, sym, ◌∙◌, ap}
use mathlib.Core.List.{List}
use native.Mathlib.Nat.{add-zero}
use native.Mathlib.Omega.{arith}
use lib.ListN.{length, take, drop, length-drop}
use lib.Seq.{drop-drop, length-take-le}
use Rattle.wire.specs.Number.{u16_at, u32_at}
use Rattle.wire.proofs.Numbers.{u32_drop}
use Rattle.psv0_layout.proofs.Positions.{part_u32, part_u16, part_part}

pub part_length : (b : List ℕ) (p n : ℕ) → p + n ≤ length b → length (take n (drop p b)) ≡ n
part_length b p n h = length-take-le n (drop p b) (rw length-drop (omega arith))

-- ---- w bytes from p on are the same
module _ (r b : List ℕ) (p w : ℕ) (e : take w (drop p r) ≡ take w (drop p b)) where
  pub alike : (x v : ℕ) → p ≤ x → x + v ≤ p + w → take v (drop x r) ≡ take v (drop x b)
  alike x v h l =
      let z : p + (x - p) ≡ x = omega arith in
      let k : x - p + v ≤ w = omega arith in
      rw (← z) (sym (part_part r p w (x - p) v k) ∙ ap (λ (t : List ℕ). take v (drop (x - p) t)) e ∙ part_part b p w (x - p) v k)

  pub alike_u32 : (x : ℕ) → p ≤ x → x + 4 ≤ p + w → u32_at r x ≡ u32_at b x
  alike_u32 x h l =
      let a : u32_at (take 4 (drop x r)) 0 ≡ u32_at r x = part_u32 r x 4 0 (omega arith) ∙ rw add-zero in
      let c : u32_at (take 4 (drop x b)) 0 ≡ u32_at b x = part_u32 b x 4 0 (omega arith) ∙ rw add-zero in
      sym a ∙ ap (λ (t : List ℕ). u32_at t 0) (alike x 4 h l) ∙ c

  pub alike_u16 : (x : ℕ) → p ≤ x → x + 2 ≤ p + w → u16_at r x ≡ u16_at b x
  alike_u16 x h l =
      let a : u16_at (take 2 (drop x r)) 0 ≡ u16_at r x = part_u16 r x 2 0 (omega arith) ∙ rw add-zero in
      let c : u16_at (take 2 (drop x b)) 0 ≡ u16_at b x = part_u16 b x 2 0 (omega arith) ∙ rw add-zero in
      sym a ∙ ap (λ (t : List ℕ). u16_at t 0) (alike x 2 h l) ∙ c

-- ---- r from p on is b from o on
module _ (r b : List ℕ) (p o : ℕ) (e : drop p r ≡ drop o b) where
  pub shifted : (x y : ℕ) → p ≤ x → x + o ≡ y + p → drop x r ≡ drop y b
  shifted x y h l =
      let z : p + (x - p) ≡ x = omega arith in
      let k : o + (x - p) ≡ y = omega arith in
      rw (← z, ← k) (sym (drop-drop (x - p) p r) ∙ ap (drop (x - p)) e ∙ drop-drop (x - p) o b)

  pub shifted_u32 : (x y : ℕ) → p ≤ x → x + o ≡ y + p → u32_at r x ≡ u32_at b y
  shifted_u32 x y h l =
      let a : u32_at (drop x r) 0 ≡ u32_at r x = u32_drop x r 0 ∙ rw add-zero in
      let c : u32_at (drop y b) 0 ≡ u32_at b y = u32_drop y b 0 ∙ rw add-zero in
      sym a ∙ ap (λ (t : List ℕ). u32_at t 0) (shifted x y h l) ∙ c
