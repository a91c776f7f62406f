-- A settings file: "a row count, then rows of version, key and value".
use Rattle.std.specs.Prelude.{Result, Ok, Err, List, [], ◌∷◌, ℕ, zero, suc, ◌+◌, leb, eqb, length}
use Rattle.wire.specs.Verdict.{◌then◌, check, Verdict, Accepted, Refused}
use Rattle.settings_layout.specs.declared.Number.{Number}
use Rattle.settings_layout.specs.declared.Row.{Row}
use Rattle.settings_layout.specs.Groups.{number, value_of, size_of, after}
use Rattle.settings_layout.specs.Rules.{row, most_rows, key_known, in_range, may_follow}

-- 53 to 55, "with the byte where the faulty number begins or is missing"
unfoldable pub number_if : Result Number ℕ → ℕ → Verdict
number_if (Ok n) p = Accepted
number_if (Err e) p = Refused e p

-- the checks of the number at p, l the bytes from there on
unfoldable pub number_judged : ℕ → List ℕ → Verdict
number_judged p l = number_if (number l) p

-- what is shown of it
abbrev pub number_shown : List ℕ → Number
number_shown l = record { value = value_of l; size = size_of l }

-- a row's three numbers
unfoldable pub row_of : List ℕ → Row
row_of l = row (value_of l) (value_of (after l)) (value_of (after (after l)))

-- how many bytes it takes, and what follows it
unfoldable pub row_size : List ℕ → ℕ
row_size l = size_of l + size_of (after l) + size_of (after (after l))

unfoldable pub row_end : List ℕ → List ℕ
row_end l = after (after (after l))

-- the checks of the row at p, after a row of version w: 59 "a falling version", 57 "an unknown key", 58 "a value out of its range". "The earliest place
-- decides, in this order at one byte": each number's own form, 53 to 55, comes before what its value may be, and the numbers follow each other
unfoldable pub row_judged : ℕ → ℕ → List ℕ → Verdict
row_judged w p l =
    number_judged p l
    then check (may_follow w (value_of l)) 59 p
    then number_judged (p + size_of l) (after l)
    then check (key_known (value_of (after l))) 57 (p + size_of l)
    then number_judged (p + size_of l + size_of (after l)) (after (after l))
    then check (in_range (value_of (after l)) (value_of (after (after l)))) 58 (p + size_of l + size_of (after l))

-- n rows from p on, the first after one of version w, and then 60 "bytes after the last row"
unfoldable pub rows_judged : ℕ → ℕ → ℕ → List ℕ → Verdict
rows_judged zero w p l = check (eqb (length l) 0) 60 p
rows_judged (suc n) w p l = row_judged w p l then rows_judged n (value_of l) (p + row_size l) (row_end l)

-- those rows
unfoldable pub rows_from : ℕ → List ℕ → List Row
rows_from zero l = []
rows_from (suc n) l = row_of l ∷ rows_from n (row_end l)

-- a whole file: 53 to 60. 56 "more than 512 rows": "a row count above 512 is 56 at 0 even where the file is cut later". No version is below 0, so the
-- first may be any
unfoldable pub judged : List ℕ → Verdict
judged d =
    number_judged 0 d
    then check (leb (value_of d) most_rows) 56 0
    then rows_judged (value_of d) 0 (size_of d) (after d)

-- the rows of a file that is accepted
unfoldable pub rows_of : List ℕ → List Row
rows_of d = rows_from (value_of d) (after d)
