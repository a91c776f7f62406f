-- Rows, which of them are right, and the value of a key at a version.
use Rattle.std.specs.Prelude.{None, Option, Some}
use Rattle.std.specs.Prelude.{Bool, ◌&&◌, List, [], ◌∷◌, ℕ, leb, eqb}
use Rattle.wire.specs.Choice.{choose}
use Rattle.settings_layout.specs.declared.Row.{Row}

-- "rows of version, key and value"
abbrev pub row : ℕ → ℕ → ℕ → Row
row v k x = record { version = v; key = k; value = x }

-- what stands for a row that is not there
abbrev pub no_row : Row
no_row = row 0 0 0

-- "At most 512 rows"
abbrev pub most_rows : ℕ
most_rows = 512

-- "Keys: 1 least edition for release (0 to 3), 2 greatest container length (any), 3 PRIV allowed (0 or 1)": which keys are known
unfoldable pub key_known : ℕ → Bool
key_known k = leb 1 k && leb k 3

-- and the greatest value of each; any number of the format is below 4,294,967,296
abbrev pub greatest : ℕ → ℕ
greatest k = choose (eqb k 1) 3 (choose (eqb k 3) 1 4294967295)

unfoldable pub in_range : ℕ → ℕ → Bool
in_range k x = leb x (greatest k)

-- "versions never fall": the version v may follow w
abbrev pub may_follow : ℕ → ℕ → Bool
may_follow w v = leb w v

-- the row has "the key and a version of at most v"
unfoldable pub tells : ℕ → ℕ → Row → Bool
tells k v r = eqb r.key k && leb r.version v

-- "The value at version v is that of the last row with the key and a version of at most v, else unset": each such row takes the place of what
-- the rows before it gave, s
unfoldable pub latest : ℕ → ℕ → Option ℕ → List Row → Option ℕ
latest k v s [] = s
latest k v s (r ∷ l) = latest k v (choose (tells k v r) (Some r.value) s) l

unfoldable pub setting_at : ℕ → ℕ → List Row → Option ℕ
setting_at k v l = latest k v None l
