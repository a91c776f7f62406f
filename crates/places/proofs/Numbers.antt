-- Numbers of a record, whatever they are: nothing wraps.
-- Assumes nothing.
use Prim.Native.Nat.{ℕ, ◌+◌, ◌-◌, ◌*◌, ◌≤◌, ◌<◌}
use mathlib.Core.Path.{◌≡◌, refl, sym}
use mathlib.Core.Bool.{Bool, true, false}
use native.Mathlib.Omega.{arith}
use native.Mathlib.Nat.{mul-le-mul_left, mul-le-mul_right}
use lib.Dec.{leb}
use borrow.Author.Tests.{le-leb, lt-leb, leb-true, leb-false}

-- n bytes at a place, by what is left after it
pub left_after : (at n m : ℕ) → at ≤ m → leb n (m - at) ≡ leb (at + n) m
left_after at n m h = go (leb n (m - at)) refl
  where
    go : (t : Bool) → leb n (m - at) ≡ t → t ≡ leb (at + n) m
    go true e = sym (le-leb (at + n) m (omega (arith, leb-true n (m - at) e)))
    go false e = sym (lt-leb (at + n) m (omega (arith, leb-false n (m - at) e)))

pub past_end : (at n m : ℕ) → m < at → false ≡ leb (at + n) m
past_end at n m h = sym (lt-leb (at + n) m (omega arith))

-- a product of two numbers of 32 bits, and a place before it
pub product_fits : (n z : ℕ) → n < 4294967296 → z < 4294967296 → n * z + 4294967296 < 18446744073709551616
product_fits n z a c =
    let e : n ≤ 4294967295 = omega arith in
    let f : z ≤ 4294967295 = omega arith in
    omega (arith, mul-le-mul_right z e, mul-le-mul_left 4294967295 f)
