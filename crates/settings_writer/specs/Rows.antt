-- Rows as arrays of three numbers: version, key and value.
use Rattle.std.specs.Prelude.{List, [], ◌∷◌, ℕ, get_or}
use Rattle.settings_layout.specs.Rules.{row}
use Rattle.settings_layout.specs.declared.Row.{Row}

abbrev pub row_in : List ℕ → Row
row_in t = row (get_or t 0 0) (get_or t 1 0) (get_or t 2 0)

unfoldable pub rows_in : List (List ℕ) → List Row
rows_in [] = []
rows_in (t ∷ l) = row_in t ∷ rows_in l
