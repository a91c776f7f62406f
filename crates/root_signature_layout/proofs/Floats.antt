-- The float of a pattern: which patterns are a NaN's, that they are the one NaN there is, and that every other float gives its bits back.
-- Assumes nothing.
use Prim.Native.Nat.{ℕ, ◌%◌, ◌≤◌, ◌<◌}
use mathlib.Core.Path.{◌≡◌, refl, sym, ◌∙◌, subst}
use mathlib.Core.Bool.{Bool, true, not, true≢false}
use lib.Dec.{T, ltb}
use lib.Ieee.{Float, nan, inf, fin, binary32, is_nan, of_bits, to_bits, nan_bits}
use lib.Ieee.Bits.{nan_bits_is, nan_bits_above, to_bits-of_bits}
use borrow.Author.Tests.{lt-ltb, le-ltb}
use Rattle.root_signature_layout.specs.Root.{single_of}

nan_is : (v : Float) → is_nan v ≡ true → v ≡ nan
unfolding is_nan
nan_is nan h = refl
nan_is (inf s) h = absurd (true≢false (sym h))
nan_is (fin s m e) h = absurd (true≢false (sym h))

-- one comparison tells a NaN's pattern: without the sign it is above the infinity's
told : (n : ℕ) → ltb 2139095040 (n % 2147483648) ≡ nan_bits binary32 n
told n = sym (nan_bits_above binary32 n)

pub is_nan_lem : (n : ℕ) → 2139095040 < n % 2147483648 → nan ≡ of_bits binary32 n
is_nan_lem n h = sym (nan_is (of_bits binary32 n) (sym (nan_bits_is binary32 n) ∙ sym (told n) ∙ lt-ltb _ _ h))

pub is_number : (n : ℕ) → n % 2147483648 ≤ 2139095040 → T (not (nan_bits binary32 n))
is_number n h = subst (λ (b : Bool). T (not b)) (sym (le-ltb _ _ h) ∙ told n) tt

-- the float alone tells the file's bits, where they are no NaN's
pub bits_back : (n : ℕ) → n < 4294967296 → n % 2147483648 ≤ 2139095040 → to_bits binary32 (single_of n).value ≡ (single_of n).bits
unfolding single_of
bits_back n h g = to_bits-of_bits binary32 n h (subst (λ (b : Bool). T (not b)) (nan_bits_is binary32 n) (is_number n g))
