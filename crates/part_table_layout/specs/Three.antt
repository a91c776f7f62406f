-- Three parts by their names, as a reader gives them that builds no table. Document 02, Ask 4: "However a part is looked up by name now, compare the
-- name as one number .. No answer changes": each part is what a lookup by name gives.
use Rattle.std.specs.Prelude.{List, ℕ, Result}
use Rattle.wire.specs.Verdict.{under, Verdict}
use Rattle.wire.specs.declared.Refusal.{Refusal}
use Rattle.part_table_layout.specs.Lookup.{find_occurrence, part_at}
use Rattle.part_table_layout.specs.Table.{count_of, table_judged}
use Rattle.part_table_layout.specs.declared.ThreeParts.{ThreeParts}

-- the part count, and what a lookup gives of the names x, y and z among the parts
abbrev pub three_shown : List ℕ → ℕ → ℕ → ℕ → ThreeParts
three_shown b x y z =
    record {
      count = count_of b;
      first = part_at b (find_occurrence b x 0);
      second = part_at b (find_occurrence b y 0);
      third = part_at b (find_occurrence b z 0);
    }

-- the same under a verdict of 1 to 9
abbrev pub three_if : Verdict → List ℕ → ℕ → ℕ → ℕ → Result ThreeParts Refusal
three_if v b x y z = under v (three_shown b x y z)

-- 1 to 9, and the parts with three names
unfoldable pub three_of : List ℕ → ℕ → ℕ → ℕ → Result ThreeParts Refusal
three_of b x y z = three_if (table_judged b) b x y z
