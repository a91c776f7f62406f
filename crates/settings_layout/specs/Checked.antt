-- How the writer's code goes about it: the same checks over the numbers that are given, without the result. That they are what reading the
-- result gives is proved (GivenRows.judged_given).
use Rattle.std.specs.Prelude.{List, [], ◌∷◌, ◌++◌, ℕ, ◌+◌, ◌<◌, length}
use Rattle.wire.specs.Verdict.{◌then◌, check, Verdict, Accepted}
use Rattle.settings_layout.specs.Groups.{in_groups}
use Rattle.settings_layout.specs.Rules.{key_known, in_range, may_follow}
use Rattle.settings_layout.specs.declared.Row.{Row}

-- numbers one after the other, whatever row they are of
unfoldable pub numbers_laid : List ℕ → List ℕ
numbers_laid [] = []
numbers_laid (n ∷ l) = in_groups n ++ numbers_laid l

-- how many bytes a number takes, and a row
abbrev pub width : ℕ → ℕ
width n = length (in_groups n)

unfoldable pub row_width : Row → ℕ
row_width r = width r.version + width r.key + width r.value

-- the checks of a row that begins at the place p of the result, after one of version w
unfoldable pub row_given : ℕ → ℕ → Row → Verdict
row_given w p r =
    check (may_follow w r.version) 59 p
    then check (key_known r.key) 57 (p + width r.version)
    then check (in_range r.key r.value) 58 (p + width r.version + width r.key)

unfoldable pub all_given : ℕ → ℕ → List Row → Verdict
all_given w p [] = Accepted
all_given w p (r ∷ l) = row_given w p r then all_given r.version (p + row_width r) l

-- every number fits its groups
pub record RowFits (r : Row) : Type 0 where
  pub version : r.version < 4294967296
  pub key : r.key < 4294967296
  pub value : r.value < 4294967296

abbrev pub Fits : List Row → Type 0
Fits [] = Unit {0}
Fits (r ∷ l) = RowFits r × Fits l
