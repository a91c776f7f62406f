-- Laws of a number's digits.
-- Assumes nothing.
use Prim.Native.Nat.{ℕ, zero, suc, ◌+◌, ◌-◌, ◌/◌, ◌%◌, ◌^◌, ◌≤◌, ◌<◌}
use mathlib.Core.Path.{◌≡◌, refl, sym, ◌∙◌, ap}
use mathlib.Core.Bool.{Bool, true, false}
use mathlib.Core.List.{List}
use native.Mathlib.Omega.{arith}
use lib.Dec.{leb}
use lib.ListN.{length, take, length-append}
use borrow.Author.Tests.{lt-ltb, le-ltb, leb-true, leb-false}
use Rattle.io.specs.Digits.{last_digits, hex_digit_ascii, IsDigitCount}
use Rattle.lines.specs.Number.{digit, digits_within, decimal}

digits_length : (k n : ℕ) → length (last_digits 10 k n) ≡ k
digits_length zero n = refl
digits_length (suc k) n = rw (length-append, digits_length k (n / 10)) (omega arith)

glyph_is : (n : ℕ) → hex_digit_ascii (n % 10) ≡ digit (n % 10)
glyph_is n = let h : n % 10 < 10 = omega arith in rw (lt-ltb (n % 10) 10 h)

ten_pos : (k : ℕ) → 0 < 10 ^ k
ten_pos zero = omega arith
ten_pos (suc k) = let h = ten_pos k in omega arith

-- a number with more digits than one: it is no digit, and the digits before the last are those of its tenth
module _ (k n : ℕ) (few : IsDigitCount 10 1 n (suc (suc k))) where
  least : 10 ^ suc k ≤ n
  least = let e : suc (suc k) - 1 ≡ suc k = omega arith in rw e at (few.2 (omega arith))

  many : 10 ≤ n
  many = let h = least in let t = ten_pos k in omega arith

  front : IsDigitCount 10 1 (n / 10) (suc k)
  front =
      let h = least in
      let g = few.1 in
      let e : suc k - 1 ≡ k = omega arith in
      (omega arith, omega arith, λ _. rw e (omega arith))

-- as many digits as a number has, and no fewer than one
within : (f k n : ℕ) → n ≤ f → IsDigitCount 10 1 n (suc k) → last_digits 10 (suc k) n ≡ digits_within f n
within zero zero n h few = rw glyph_is
within zero (suc k) n h few = let m = many k n few in absurd (omega arith)
within (suc f) zero n h few = let g = few.1 in rw (lt-ltb n 10 (omega arith), glyph_is)
within (suc f) (suc k) n h few =
    let m = many k n few in
    rw (le-ltb n 10 m, ← within f k (n / 10) (omega arith) (front k n few), glyph_is n)

decimal_is : (n k : ℕ) → IsDigitCount 10 1 n k → last_digits 10 k n ≡ decimal n
unfolding decimal
decimal_is n zero few = absurd (omega (arith, few.0))
decimal_is n (suc k) few = within n k n (omega arith) few

-- a number below 2^64 has at most 20 digits
twenty : (j : ℕ) → 10 ^ 20 ≤ 10 ^ (20 + j)
twenty zero = omega arith
twenty (suc j) =
    let h = twenty j in
    let e : 20 + suc j ≡ suc (20 + j) = omega arith in
    rw e (omega arith)

few_enough : (n k : ℕ) → n < 18446744073709551616 → IsDigitCount 10 1 n k → k ≤ 20
few_enough n k h few = go (leb k 20) refl
  where
    go : (t : Bool) → leb k 20 ≡ t → k ≤ 20
    go true e = leb-true k 20 e
    go false e =
        let g = leb-false k 20 e in
        let j = twenty (k - 21) in
        let q : 20 + (k - 21) ≡ k - 1 = omega arith in
        let w = few.2 (omega arith) in
        let w' = rw q at j in
        absurd (omega arith)

-- `io::decimal` puts the number's digits at the start of o, and answers how many there are
module _ (n k : ℕ) (o : List ℕ) (few : IsDigitCount 10 1 n k) (e : take k o ≡ last_digits 10 k n) where
  pub spelled : take k o ≡ decimal n
  spelled = e ∙ decimal_is n k few

  pub spelled_length : length (decimal n) ≡ k
  spelled_length = ap length (sym (decimal_is n k few)) ∙ digits_length k n

  pub spelled_short : n < 18446744073709551616 → k ≤ 20
  spelled_short h = few_enough n k h few
