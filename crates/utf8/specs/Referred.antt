-- The references of some records, and which of them is the first that isn't good.
use Rattle.std.specs.Prelude.{Bool, ◌&&◌, ◌||◌, not, List, ℕ, eqb}
use Rattle.wire.specs.Search.{first}
use Rattle.psv0_layout.specs.Position.{reference_at}
use Rattle.psv0_layout.specs.Reference.{string_good}

-- a reference passes: it is good, or it is 0 where that refers to nothing
unfoldable pub passes : List ℕ → Bool → ℕ → Bool
passes t free o = (free && eqb o 0) || string_good t o

-- the number of the first of n references that doesn't pass, or n
unfoldable pub first_ill : List ℕ → Bool → List ℕ → ℕ → ℕ → ℕ → ℕ → ℕ
first_ill t free e s count last n = first (λ i. not (passes t free (reference_at e s count last i))) n
