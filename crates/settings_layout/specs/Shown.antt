-- What a reader shows of a settings file: "on a refused file every question gives the refusal".
use Rattle.std.specs.Prelude.{Option, Result, List, ℕ, ◌+◌, ltb, drop, get_or}
use Rattle.wire.specs.Verdict.{◌then◌, check, under}
use Rattle.wire.specs.declared.Refusal.{Refusal}
use Rattle.settings_layout.specs.declared.Row.{Row}
use Rattle.settings_layout.specs.declared.RowAlone.{RowAlone}
use Rattle.settings_layout.specs.declared.Settings.{Settings}
use Rattle.settings_layout.specs.File.{judged, row_judged, row_of, row_size, rows_of}
use Rattle.settings_layout.specs.Groups.{value_of, size_of}
use Rattle.settings_layout.specs.Rules.{no_row, setting_at}

-- "verdict and number of rows", and the byte where the first row begins
abbrev pub settings_shown : List ℕ → Settings
settings_shown d = record { rows = value_of d; first = size_of d }

unfoldable pub settings_of : List ℕ → Result Settings Refusal
settings_of d = under (judged d) (settings_shown d)

-- "row i (26 where there is none)"
unfoldable pub row_answer_of : List ℕ → ℕ → Result Row Refusal
row_answer_of d i = under (judged d then check (ltb i (value_of d)) 26 0) (get_or (rows_of d) i no_row)

-- "the value of a key at version v"
unfoldable pub setting_answer_of : List ℕ → ℕ → ℕ → Result (Option ℕ) Refusal
setting_answer_of d k v = under (judged d) (setting_at k v (rows_of d))

-- the row that begins at the byte p, by itself, after a row of version w: what its own bytes give, so that a listing judges the file once
abbrev pub alone_shown : ℕ → List ℕ → RowAlone
alone_shown p l = record { row = row_of l; end = p + row_size l }

unfoldable pub row_alone_of : List ℕ → ℕ → ℕ → Result RowAlone Refusal
row_alone_of d p w = under (row_judged w p (drop p d)) (alone_shown p (drop p d))
