-- A search: the first number at which a test is true.
use Rattle.std.specs.Prelude.{Bool, ℕ, zero, suc}
use Rattle.wire.specs.Choice.{choose}

-- the first of the m numbers from i on at which the test is true, or i + m where there is none
abbrev pub first_from : (ℕ → Bool) → ℕ → ℕ → ℕ
first_from p i zero = i
first_from p i (suc m) = choose (p i) i (first_from p (suc i) m)

-- the first number below n at which the test is true, or n where there is none
abbrev pub first : (ℕ → Bool) → ℕ → ℕ
first p n = first_from p 0 n
