-- A part by its name, and by its name and occurrence.
use Rattle.std.specs.Prelude.{None, Option, Some, Result, Ok, Err}
use Rattle.std.specs.Prelude.{Bool, ◌&&◌, List, [], ℕ, zero, suc, ltb, eqb, get_or}
use Rattle.wire.specs.Choice.{choose}
use Rattle.wire.specs.Search.{first}
use Rattle.wire.specs.declared.Refusal.{Refusal}
use Rattle.wire.specs.Verdict.{Verdict, Accepted, Refused, verdict_of}
use Rattle.part_table_layout.specs.Table.{has_name, borne, count_of, offset_at, name_at, size_at, data_at, table_judged}
use Rattle.part_table_layout.specs.declared.Part.{Part}
use Rattle.part_table_layout.specs.declared.Table.{Table}

-- a number below n, or nothing
abbrev pub found_below : ℕ → ℕ → Option ℕ
found_below n k = choose (ltb k n) (Some k) None

-- ---- among n names
-- the first that is x
abbrev pub first_named : (ℕ → ℕ) → ℕ → ℕ → Option ℕ
first_named names n x = found_below n (first (has_name names x) n)

-- name j is x, and o earlier ones are
abbrev pub is_occurrence : (ℕ → ℕ) → ℕ → ℕ → ℕ → Bool
is_occurrence names x o j = has_name names x j && eqb (borne names x j) o

-- the one that is x and has the occurrence o
abbrev pub occurrence_named : (ℕ → ℕ) → ℕ → ℕ → ℕ → Option ℕ
occurrence_named names n x o = found_below n (first (is_occurrence names x o) n)

-- the same in a list of names, of which no more than 96 count
unfoldable pub found_in : List ℕ → ℕ → ℕ → Option ℕ
found_in names n x = first_named (λ k. get_or names k 0) (choose (ltb n 96) n 96) x

unfoldable pub occurrence_in : List ℕ → ℕ → ℕ → ℕ → Option ℕ
occurrence_in names n x o = occurrence_named (λ k. get_or names k 0) (choose (ltb n 96) n 96) x o

-- ---- of a container
-- the first part with the name x
unfoldable pub find : List ℕ → ℕ → Option ℕ
find b x = first_named (name_at b) (count_of b) x

-- the part with the name x and the occurrence o. Document 02, Ask 8: "A query by name takes that first number too"
unfoldable pub find_occurrence : List ℕ → ℕ → ℕ → Option ℕ
find_occurrence b x o = occurrence_named (name_at b) (count_of b) x o

-- the refusal with a number and a place, as an answer: nothing stands beside it
abbrev pub refused : {A : Type 0} → ℕ → ℕ → Result A Refusal
refused n p = Err (record { number = n; place = p })

-- the entry of a table that a search found, and the part with the name x and the occurrence o of a table t that was read
abbrev pub entry_at : Table → Option ℕ → Result Part Refusal
entry_at t (Some k) = Ok (record { number = k; offset = get_or t.offsets k 0; size = get_or t.sizes k 0 })
entry_at t None = refused 26 0

abbrev pub entry_if : Verdict → Table → ℕ → ℕ → Result Part Refusal
entry_if Accepted t x o = entry_at t (occurrence_in t.names t.count x o)
entry_if (Refused n p) t x o = refused n p

unfoldable pub part_in : Table → ℕ → ℕ → Result Part Refusal
part_in t x o = entry_if (verdict_of t.verdict) t x o

-- 26: "a query names a part .. that isn't there"
abbrev pub part_at : List ℕ → Option ℕ → Result Part Refusal
part_at b (Some k) = Ok (record { number = k; offset = offset_at b k; size = size_at b k })
part_at b None = refused 26 0

abbrev pub part_if : Verdict → List ℕ → ℕ → ℕ → Result Part Refusal
part_if Accepted b x o = part_at b (find_occurrence b x o)
part_if (Refused n p) b x o = refused n p

-- the part with the name x and the occurrence o: "a query gives what opening gives, then 26"; of the table, 1 to 9
unfoldable pub occurrence_of : List ℕ → ℕ → ℕ → Result Part Refusal
occurrence_of b x o = part_if (table_judged b) b x o

-- the data of a part that was looked up; no bytes where the lookup refuses
abbrev pub data_if : Result Part Refusal → List ℕ → List ℕ
data_if (Ok p) b = data_at b p.number
data_if (Err r) b = []

unfoldable pub occurrence_data : List ℕ → ℕ → ℕ → List ℕ
occurrence_data b x o = data_if (occurrence_of b x o) b

-- "without it the first part is meant"
abbrev pub part_of : List ℕ → ℕ → Result Part Refusal
part_of b x = occurrence_of b x 0

abbrev pub data_of : List ℕ → ℕ → List ℕ
data_of b x = occurrence_data b x 0

-- ---- a further part, for who has looked up the first
-- among the parts that a file lists, of which no more than 96 count
unfoldable pub occurrence_listed : List ℕ → ℕ → ℕ → Option ℕ
occurrence_listed b x o = occurrence_named (name_at b) (choose (ltb (count_of b) 96) (count_of b) 96) x o

-- the part with the name x and the occurrence o, of a file whose first part with that name is p: a refusal stands for every occurrence
abbrev pub later_if : Result Part Refusal → List ℕ → ℕ → ℕ → Result Part Refusal
later_if (Ok p) b x o = part_at b (occurrence_listed b x o)
later_if (Err r) b x o = Err r

unfoldable pub later_part : List ℕ → ℕ → ℕ → Result Part Refusal → Result Part Refusal
later_part b x zero p = p
later_part b x (suc o) p = later_if p b x (suc o)
