-- What the walk over the rows answers.
use Rattle.std.specs.Prelude.{None, Option, Result, Some, List, [], ◌∷◌, ℕ, suc, eqb}
use Rattle.wire.specs.Choice.{choose}
use Rattle.wire.specs.Verdict.{under}
use Rattle.wire.specs.declared.Refusal.{Refusal}
use Rattle.settings_layout.specs.File.{judged, rows_of}
use Rattle.settings_layout.specs.Rules.{latest}
use Rattle.settings_layout.specs.Shown.{settings_shown}
use Rattle.settings_layout.specs.declared.Row.{Row}
use Rattle.settings_layout.specs.declared.Settings.{Settings}
use Rattle.settings_reader.specs.declared.Walked.{Walked}

-- row i of rows that are numbered from j on, or r
unfoldable pub row_from : ℕ → ℕ → Option Row → List Row → Option Row
row_from i j r [] = r
row_from i j r (x ∷ l) = row_from i (suc j) (choose (eqb j i) (Some x) r) l

-- every answer at once, of rows that are there
abbrev pub walked_by : Settings → ℕ → ℕ → ℕ → List Row → Walked
walked_by s k v i l = record { settings = s; setting = latest k v None l; row = row_from i 0 None l }

unfoldable pub walked_of : List ℕ → ℕ → ℕ → ℕ → Result Walked Refusal
walked_of d k v i = under (judged d) (walked_by (settings_shown d) k v i (rows_of d))
