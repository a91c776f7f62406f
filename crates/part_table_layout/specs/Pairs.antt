-- How many pairs of names the check of 9 compares. Document 02, Ask 12: "The table reader reports, beside its answer or refusal, how many pairs of
-- names it compared: for each part in turn, the earlier ones in order; a match ends the count."
use Rattle.std.specs.Prelude.{Bool, true, ◌&&◌, not, List, ℕ, zero, suc, ◌+◌}
use Rattle.wire.specs.Choice.{choose}
use Rattle.wire.specs.Verdict.{◌then◌, each, Verdict, Accepted, Refused}
use Rattle.part_table_layout.specs.Table.{may_repeat, has_name, may_stand, count_of, name_at, header_judged, part_judged, table_with}
use Rattle.part_table_layout.specs.declared.Table.{Table}

-- the m numbers from i on are gone through, one more each, up to the first at which the test is true, that one included: how many
unfoldable pub gone_from : (ℕ → Bool) → ℕ → ℕ → ℕ
gone_from p i zero = 0
gone_from p i (suc m) = 1 + choose (p i) 0 (gone_from p (suc i) m)

-- name j, compared with x, ends the count: it is a match, but "A PRIV compared with a PRIV counts but doesn't stop the walk"
unfoldable pub ends : (ℕ → ℕ) → ℕ → ℕ → Bool
ends names x j = has_name names x j && not (may_repeat x)

-- part k against "the earlier ones in order"; the pair that matches is counted
unfoldable pub pairs_at : (ℕ → ℕ) → ℕ → ℕ
pairs_at names k = gone_from (ends names (names k)) 0 k

-- "for each part in turn": the m parts from k on, up to the one that has a match
unfoldable pub pairs_from : (ℕ → ℕ) → ℕ → ℕ → ℕ
pairs_from names k zero = 0
pairs_from names k (suc m) = pairs_at names k + choose (may_stand names (names k) k) (pairs_from names (suc k) m) 0

-- the checks before 9
unfoldable pub before_names : List ℕ → Verdict
before_names b = header_judged b then each (part_judged b) (count_of b)

-- "0 when a check before 9 refuses": under the verdict of those checks
abbrev pub pairs_if : Verdict → List ℕ → ℕ
pairs_if Accepted b = pairs_from (name_at b) 0 (count_of b)
pairs_if (Refused n p) b = 0

-- "The number equals that rule's count"
unfoldable pub pairs_compared : List ℕ → ℕ
pairs_compared b = pairs_if (before_names b) b

-- "The table reader reports, beside its answer or refusal": the part table of a container, or its refusal, for who asks and who doesn't
abbrev pub table_asked : Bool → List ℕ → Table
table_asked counting b = table_with counting (choose counting (pairs_compared b) 0) b

abbrev pub counted_of : List ℕ → Table
counted_of b = table_asked true b
