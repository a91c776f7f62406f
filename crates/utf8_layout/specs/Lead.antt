-- Bytes that lead a sequence and bytes that follow in one.
use Rattle.std.specs.Prelude.{Bool, List, [], ◌∷◌, ℕ, ◌+◌}
use Rattle.wire.specs.Choice.{choose}
use Rattle.utf8_layout.specs.Sequence.{within}

-- a byte that follows a lead byte: in table 3-7 all but the first byte of a sequence are such, and no first byte is
abbrev pub follows : ℕ → Bool
follows x = within 0x80 0xBF x

-- one for a byte that doesn't
unfoldable pub lead : ℕ → ℕ
lead x = choose (follows x) 0 1

-- how many bytes don't: of a well-formed string as many as it has code points
unfoldable pub leads : List ℕ → ℕ
leads [] = 0
leads (x ∷ l) = lead x + leads l
