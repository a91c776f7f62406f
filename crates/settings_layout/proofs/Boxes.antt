-- Worked files, computed: what is said of each, in one list.
-- Assumes nothing.
use Rattle.std.specs.Prelude.{None, Option, Some, Result, Ok, Err}
use Prim.Native.Nat.{ℕ}
use mathlib.Core.Path.{◌≡◌, refl}
use mathlib.Core.List.{List, [], ◌∷◌}
use Rattle.wire.specs.Verdict.{◌then◌, check, under, Verdict, Accepted, Refused}
use Rattle.wire.specs.declared.Refusal.{Refusal}
use Rattle.settings_layout.specs.File.{number_if, number_judged, row_of, row_size, row_end, row_judged, rows_judged, rows_from, judged, rows_of}
use Rattle.settings_layout.specs.Groups.{grouped, further, number, value_of, size_of, after, groups, in_groups}
use Rattle.settings_layout.specs.Given.{rows_given, written, writer_judged, answer, output_if, output}
use Rattle.settings_layout.specs.Laid.{row_laid, rows_laid, laid}
use Rattle.settings_layout.specs.Rules.{row, key_known, in_range, tells, latest, setting_at}
use Rattle.settings_layout.specs.Shown.{settings_of, row_answer_of, row_alone_of}
use Rattle.settings_layout.specs.declared.RowAlone.{RowAlone}
use Rattle.settings_layout.specs.declared.Row.{Row}
use Rattle.settings_layout.specs.declared.Settings.{Settings}

-- ---- each refusal with its place, and two at one byte or at neighbours
said : List Verdict
unfolding judged rows_judged row_judged row_end row_size number_judged number_if number further grouped value_of size_of after key_known in_range check ◌then◌
said =
    judged (0 ∷ [])
    ∷ judged []
    ∷ judged (128 ∷ [])
    ∷ judged (128 ∷ 0 ∷ [])
    ∷ judged (255 ∷ 255 ∷ 255 ∷ 255 ∷ 15 ∷ [])
    ∷ judged (128 ∷ 128 ∷ 128 ∷ 128 ∷ 16 ∷ [])
    ∷ judged (128 ∷ 128 ∷ 128 ∷ 128 ∷ 128 ∷ [])
    ∷ judged (128 ∷ 128 ∷ 128 ∷ 128 ∷ 128 ∷ 0 ∷ [])
    ∷ judged (128 ∷ 128 ∷ 128 ∷ 128 ∷ 0 ∷ [])
    ∷ judged (255 ∷ 255 ∷ 255 ∷ 255 ∷ [])
    ∷ judged (129 ∷ 4 ∷ [])
    ∷ judged (128 ∷ 4 ∷ [])
    ∷ judged (1 ∷ 5 ∷ 4 ∷ 128 ∷ 0 ∷ [])
    ∷ judged (1 ∷ 5 ∷ 0 ∷ 0 ∷ [])
    ∷ judged (1 ∷ 5 ∷ 1 ∷ 3 ∷ [])
    ∷ judged (1 ∷ 5 ∷ 1 ∷ 4 ∷ [])
    ∷ judged (1 ∷ 5 ∷ 3 ∷ 1 ∷ [])
    ∷ judged (1 ∷ 5 ∷ 3 ∷ 2 ∷ [])
    ∷ judged (1 ∷ 5 ∷ 2 ∷ 255 ∷ 255 ∷ 255 ∷ 255 ∷ 15 ∷ [])
    ∷ judged (2 ∷ 5 ∷ 1 ∷ 3 ∷ 4 ∷ 9 ∷ [])
    ∷ judged (2 ∷ 5 ∷ 1 ∷ 3 ∷ 132 ∷ 0 ∷ [])
    ∷ judged (2 ∷ 5 ∷ 1 ∷ 3 ∷ 5 ∷ 3 ∷ 1 ∷ [])
    ∷ judged (1 ∷ 5 ∷ 1 ∷ 3 ∷ 0 ∷ [])
    ∷ []

boxes_hold : said
    ≡ Accepted
    ∷ Refused 55 0
    ∷ Refused 55 0
    ∷ Refused 53 0
    ∷ Refused 56 0
    ∷ Refused 54 0
    ∷ Refused 54 0
    ∷ Refused 54 0
    ∷ Refused 53 0
    ∷ Refused 55 0
    ∷ Refused 56 0
    ∷ Refused 55 2
    ∷ Refused 57 2
    ∷ Refused 57 2
    ∷ Accepted
    ∷ Refused 58 3
    ∷ Accepted
    ∷ Refused 58 3
    ∷ Accepted
    ∷ Refused 59 4
    ∷ Refused 53 4
    ∷ Accepted
    ∷ Refused 60 4
    ∷ []
unfolding said judged rows_judged row_judged row_end row_size number_judged number_if number further grouped value_of size_of after key_known in_range check ◌then◌
boxes_hold = refl

-- ---- a file with the least edition 1 from version 5 on, 2 and then 3 from 9 on, and PRIV allowed from 9 on
file : List ℕ
file = 4 ∷ 5 ∷ 1 ∷ 1 ∷ 9 ∷ 1 ∷ 2 ∷ 9 ∷ 3 ∷ 1 ∷ 9 ∷ 1 ∷ 3 ∷ []

-- what it tells of a key at a version
told : ℕ → ℕ → Option ℕ
told k v = setting_at k v (rows_of file)

values : List (Option ℕ)
unfolding told file setting_at latest tells rows_of rows_from row_of row_end number further grouped value_of size_of after
values = told 1 4 ∷ told 1 5 ∷ told 1 8 ∷ told 1 9 ∷ told 1 4294967295 ∷ told 2 9 ∷ told 3 8 ∷ told 3 9 ∷ told 0 9 ∷ told 4 9 ∷ []

values_hold : values ≡ None ∷ Some 1 ∷ Some 1 ∷ Some 3 ∷ Some 3 ∷ None ∷ None ∷ Some 1 ∷ None ∷ None ∷ []
unfolding values told file setting_at latest tells rows_of rows_from row_of row_end number further grouped value_of size_of after
values_hold = refl

file_accepted : judged file ≡ Accepted
unfolding file judged rows_judged row_judged row_end row_size number_judged number_if number further grouped value_of size_of after key_known in_range check ◌then◌
file_accepted = refl

abbrev refused : {A : Type 0} → ℕ → ℕ → Result A Refusal
refused n p = Err (record { number = n; place = p })

-- ---- what is shown of it: rows at both ends, past the end, and of a file that is refused, nothing
rows : List (Result Row Refusal)
unfolding file row_answer_of under judged rows_judged row_judged rows_of rows_from row_of row_end row_size number_judged number_if number further grouped value_of size_of after key_known in_range check ◌then◌
rows = row_answer_of file 0 ∷ row_answer_of file 3 ∷ row_answer_of file 4 ∷ row_answer_of (1 ∷ 5 ∷ 1 ∷ 4 ∷ []) 0 ∷ []

rows_hold : rows
    ≡ Ok (row 5 1 1)
    ∷ Ok (row 9 1 3)
    ∷ refused 26 0
    ∷ refused 58 3
    ∷ []
unfolding rows file row_answer_of under judged rows_judged row_judged rows_of rows_from row_of row_end row_size number_judged number_if number further grouped value_of size_of after key_known in_range check ◌then◌
rows_hold = refl

alone : List (Result RowAlone Refusal)
unfolding file row_alone_of under row_judged row_of row_size number_judged number_if number further grouped value_of size_of after key_known in_range check ◌then◌
alone = row_alone_of file 4 9 ∷ row_alone_of file 4 10 ∷ row_alone_of file 13 0 ∷ []

alone_hold : alone
    ≡ Ok (record { row = row 9 1 2; end = 7 })
    ∷ refused 59 4
    ∷ refused 55 13
    ∷ []
unfolding alone file row_alone_of under row_judged row_of row_size number_judged number_if number further grouped value_of size_of after key_known in_range check ◌then◌
alone_hold = refl

shown : List (Result Settings Refusal)
unfolding file settings_of under judged rows_judged row_judged row_end row_size number_judged number_if number further grouped value_of size_of after key_known in_range check ◌then◌
shown = settings_of file ∷ settings_of (129 ∷ 4 ∷ []) ∷ []

shown_hold : shown ≡ Ok (record { rows = 4; first = 1 }) ∷ refused 56 0 ∷ []
unfolding shown file settings_of under judged rows_judged row_judged row_end row_size number_judged number_if number further grouped value_of size_of after key_known in_range check ◌then◌
shown_hold = refl

-- ---- the writer: its answers, and what it leaves in an output of five bytes
answers : List (Result ℕ Refusal)
unfolding writer_judged under written rows_given laid rows_laid row_laid in_groups groups judged rows_judged row_judged row_end row_size number_judged number_if number further grouped value_of size_of after key_known in_range check ◌then◌
answers = answer (5 ∷ 1 ∷ 3 ∷ []) 4 ∷ answer (5 ∷ 1 ∷ 3 ∷ []) 3 ∷ answer (5 ∷ 1 ∷ []) 9 ∷ answer (300 ∷ 1 ∷ 4 ∷ []) 0 ∷ []

answers_hold : answers
    ≡ Ok 4
    ∷ refused 28 0
    ∷ refused 27 0
    ∷ refused 58 4
    ∷ []
unfolding answers writer_judged under written rows_given laid rows_laid row_laid in_groups groups judged rows_judged row_judged row_end row_size number_judged number_if number further grouped value_of size_of after key_known in_range check ◌then◌
answers_hold = refl

left : List (List ℕ)
unfolding writer_judged under output_if written rows_given laid rows_laid row_laid in_groups groups judged rows_judged row_judged row_end row_size number_judged number_if number further grouped value_of size_of after key_known in_range check ◌then◌
left = output (5 ∷ 1 ∷ 3 ∷ []) (7 ∷ 7 ∷ 7 ∷ 7 ∷ 7 ∷ []) ∷ output (5 ∷ 1 ∷ 4 ∷ []) (7 ∷ 7 ∷ 7 ∷ 7 ∷ 7 ∷ []) ∷ []

left_hold : left ≡ (1 ∷ 5 ∷ 1 ∷ 3 ∷ 7 ∷ []) ∷ (7 ∷ 7 ∷ 7 ∷ 7 ∷ 7 ∷ []) ∷ []
unfolding left writer_judged under output_if written rows_given laid rows_laid row_laid in_groups groups judged rows_judged row_judged row_end row_size number_judged number_if number further grouped value_of size_of after key_known in_range check ◌then◌
left_hold = refl
