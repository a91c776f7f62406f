-- One string of a table by its reference.
use Rattle.std.specs.Prelude.{List, ℕ, ◌≤◌, ◌<◌, Option, Some, None, length, get_or}
use Rattle.wire.specs.Choice.{choose}
use Rattle.utf8_layout.specs.Sequence.{code_points}
use Rattle.psv0_layout.specs.Reference.{string_good, string_at}
use Rattle.utf8.specs.declared.StringRead.{StringRead}

-- bytes other than zero and below 0x80 stand from position i up to n
abbrev pub Letters : List ℕ → ℕ → ℕ → Type 0
Letters t i n = (j : ℕ) → i ≤ j → j < n → (0 < get_or t j 0) × (get_or t j 0 < 0x80)

-- what is told of the string at o
unfoldable pub read_of : List ℕ → ℕ → Option StringRead
read_of t o = choose (string_good t o) (Some (record { len = length (string_at t o); points = code_points (string_at t o) })) None
