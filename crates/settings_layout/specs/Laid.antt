-- Rows as a file: "a row count, then rows of version, key and value", each number in its shortest form.
use Rattle.std.specs.Prelude.{List, [], ◌∷◌, ◌++◌, ℕ, length}
use Rattle.settings_layout.specs.declared.Row.{Row}
use Rattle.settings_layout.specs.Groups.{in_groups}

unfoldable pub row_laid : Row → List ℕ → List ℕ
row_laid r l = in_groups r.version ++ (in_groups r.key ++ (in_groups r.value ++ l))

unfoldable pub rows_laid : List Row → List ℕ
rows_laid [] = []
rows_laid (r ∷ l) = row_laid r (rows_laid l)

unfoldable pub laid : List Row → List ℕ
laid l = in_groups (length l) ++ rows_laid l
