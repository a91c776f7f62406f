-- The number that a word names.
use Rattle.std.specs.Prelude.{Result, Ok, Err, Bool, ◌&&◌, List, [], ◌∷◌, ℕ, ◌+◌, ◌*◌, ◌-◌, leb, ltb}
use Rattle.wire.specs.Choice.{choose}
use Rattle.words.specs.declared.WordError.{WordError}
use Rattle.words.specs.declared.WordError.TheVariants.{Greater, NoNumber}

-- `0` to `9`
abbrev pub is_digit : ℕ → Bool
is_digit c = leb 48 c && leb c 57

-- the number of the digits so far, and those still to come
unfoldable pub named_from : ℕ → List ℕ → Result ℕ WordError
named_from n [] = choose (ltb n 4294967296) (Ok n) (Err Greater)
named_from n (c ∷ l) = choose (is_digit c) (named_from (10 * n + (c - 48)) l) (Err NoNumber)

-- one digit at least
unfoldable pub named_of : List ℕ → Result ℕ WordError
named_of [] = Err NoNumber
named_of (c ∷ l) = named_from 0 (c ∷ l)
