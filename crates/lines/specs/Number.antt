-- A number as text.
use Rattle.std.specs.Prelude.{List, [], ◌∷◌, ◌++◌, ℕ, zero, suc, ◌+◌, ◌/◌, ◌%◌, ltb}
use Rattle.wire.specs.Choice.{choose}

-- the byte of a digit, `0` to `9`
abbrev pub digit : ℕ → ℕ
digit d = 48 + d

-- the decimal digits of n, the most significant first and no zero in front, where it has at most k + 1
abbrev pub digits_within : ℕ → ℕ → List ℕ
digits_within zero n = digit (n % 10) ∷ []
digits_within (suc k) n = choose (ltb n 10) [] (digits_within k (n / 10)) ++ (digit (n % 10) ∷ [])

-- the decimal digits of n, which has at most n + 1
unfoldable pub decimal : ℕ → List ℕ
decimal n = digits_within n n
