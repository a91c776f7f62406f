-- The opening of a whole container, and what it shows.
use Rattle.std.specs.Prelude.{None, Option, Some}
use Rattle.std.specs.Prelude.{Bool, true, false, List, [], ◌∷◌, Result, ℕ, ◌+◌, leb, ltb}
use Rattle.part_table_layout.specs.Lookup.{find, part_if, data_if}
use Rattle.part_table_layout.specs.Table.{offset_at, size_at, data_at, table_judged}
use Rattle.part_table_layout.specs.declared.Part.{Part}
use Rattle.psv0_layout.specs.Judged.{judged_at}
use Rattle.psv0_layout.specs.Layout.{edition_read_of}
use Rattle.psv0_layout.specs.Shown.{Value, Question, shown, beside}
use Rattle.wire.specs.Number.{u32_at}
use Rattle.wire.specs.Verdict.{◌then◌, check, Verdict}
use Rattle.wire.specs.declared.Refusal.{Refusal}

-- the names `DXIL` and `PSV0`, as numbers
abbrev pub dxil : ℕ
dxil = u32_at (68 ∷ 88 ∷ 73 ∷ 76 ∷ []) 0

abbrev pub psv0 : ℕ
psv0 = u32_at (80 ∷ 83 ∷ 86 ∷ 48 ∷ []) 0

abbrev pub is_there : Option ℕ → Bool
is_there (Some k) = true
is_there None = false

-- where the data of a part that was looked for start, 0 where there is none
abbrev pub start_found : List ℕ → Option ℕ → ℕ
start_found b (Some k) = offset_at b k + 8
start_found b None = 0

-- the size of a part that was looked for, 0 where there is none, and its data
abbrev pub size_found : List ℕ → Option ℕ → ℕ
size_found b (Some k) = size_at b k
size_found b None = 0

abbrev pub data_found : List ℕ → Option ℕ → List ℕ
data_found b (Some k) = data_at b k
data_found b None = []

-- the PSV0 part's data
unfoldable pub psv_of : List ℕ → List ℕ
psv_of b = data_found b (find b psv0)

-- what is checked before the PSV0 data: 25, then 1 to 9, then 10, "no DXIL part, or one of size 0", and 11, "no PSV0 part"
unfoldable pub before_psv : ℕ → List ℕ → Verdict
before_psv k b =
    check (leb k 3) 25 0
    then table_judged b
    then check (ltb 0 (size_found b (find b dxil))) 10 0
    then check (is_there (find b psv0)) 11 0

-- what opening b gives at edition k: these, and then 12 to 24 of the PSV0 data
unfoldable pub container_judged : ℕ → List ℕ → Verdict
container_judged k b = before_psv k b then judged_at (edition_read_of k (psv_of b)) (psv_of b)

-- what reader k shows of a container: of its PSV0 part; nothing of the file where the opening refuses
unfoldable pub container_answered : ℕ → List ℕ → Question → Value
container_answered k b q = beside (container_judged k b) (shown k (psv_of b) q)

-- one part by its name's number x and its occurrence o: what opening gives, then 26. Document 02, Ask 8: "A query by name takes that first
-- number too"
unfoldable pub container_occurrence : ℕ → List ℕ → ℕ → ℕ → Result Part Refusal
container_occurrence k b x o = part_if (container_judged k b) b x o

-- its data: no bytes where the query refuses
unfoldable pub occurrence_data_of : ℕ → List ℕ → ℕ → ℕ → List ℕ
occurrence_data_of k b x o = data_if (container_occurrence k b x o) b

-- "without it the first part is meant"
abbrev pub container_part : ℕ → List ℕ → ℕ → Result Part Refusal
container_part k b x = container_occurrence k b x 0

abbrev pub part_data_of : ℕ → List ℕ → ℕ → List ℕ
part_data_of k b x = occurrence_data_of k b x 0
