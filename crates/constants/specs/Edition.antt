-- Editions (document 01's term): the four sizes of the runtime record.
use Rattle.std.specs.Prelude.{List, [], ◌∷◌, ℕ, leb, get_or}
use Rattle.wire.specs.Choice.{choose}

-- "of: 0: 24, 1: 36, 2: 48, 3: 52"
abbrev pub edition_sizes : List ℕ
edition_sizes = 24 ∷ 36 ∷ 48 ∷ 52 ∷ []

-- the size of edition e; an edition above 3 counts as 3
abbrev pub size_of : ℕ → ℕ
size_of e = get_or edition_sizes e 52

-- "The file's edition is the greatest whose size is at most S"
abbrev pub file_edition_of : ℕ → ℕ
file_edition_of s = choose (leb (size_of 3) s) 3 (choose (leb (size_of 2) s) 2 (choose (leb (size_of 1) s) 1 0))
