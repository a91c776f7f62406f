-- The part table of a container, as document 01 has it in "The container" and "Refusal numbers".
use Rattle.std.specs.Prelude.{Ok, Bool, false, ◌&&◌, ◌||◌, not, List, [], ◌∷◌, ◌++◌, ℕ, zero, suc, ◌+◌, ◌-◌, ◌*◌, ltb, leb, eqb, length, take, drop, set, replicate}
use Rattle.wire.specs.Number.{u16_at, u32_at, le32}
use Rattle.wire.specs.Search.{first}
use Rattle.wire.specs.Sum.{sum_below, count_below}
use Rattle.wire.specs.Verdict.{◌then◌, check, each, under, Verdict, Accepted, Refused}
use Rattle.part_table_layout.specs.declared.Table.{Table}

-- offset 0: "the four bytes `DXBC`"
abbrev pub magic : List ℕ
magic = 68 ∷ 88 ∷ 66 ∷ 67 ∷ []

-- offset 28: "part count n"
unfoldable pub count_of : List ℕ → ℕ
count_of b = u32_at b 28

-- offset 32: "offset of each part header", 4 bytes a part
unfoldable pub offset_at : List ℕ → ℕ → ℕ
offset_at b k = u32_at b (32 + 4 * k)

-- the offsets f k, f (k + 1) and so on of m parts, as bytes
unfoldable pub offset_bytes : (ℕ → ℕ) → ℕ → ℕ → List ℕ
offset_bytes f k zero = []
offset_bytes f k (suc m) = le32 (f k) ++ offset_bytes f (suc k) m

-- "A part header is a 4-byte name and a 4-byte data size; the data follow." A name is its four bytes as one number.
unfoldable pub name_at : List ℕ → ℕ → ℕ
name_at b k = u32_at b (offset_at b k)

unfoldable pub size_at : List ℕ → ℕ → ℕ
size_at b k = u32_at b (offset_at b k + 4)

unfoldable pub data_at : List ℕ → ℕ → List ℕ
data_at b k = take (size_at b k) (drop (offset_at b k + 8) b)

-- the end of part k's data
unfoldable pub end_at : List ℕ → ℕ → ℕ
end_at b k = offset_at b k + 8 + size_at b k

-- "each part header starts at or after the end of the part before it (the first: at or after the end of the offset table)"
unfoldable pub earliest : List ℕ → ℕ → ℕ
earliest b zero = 32 + 4 * count_of b
earliest b (suc k) = end_at b k

-- 8: "a part starts too early, or its header or data pass the end"; the place is the part
unfoldable pub part_judged : List ℕ → ℕ → Verdict
part_judged b k = check (leb (earliest b k) (offset_at b k) && leb (offset_at b k + 8) (length b) && leb (end_at b k) (length b)) 8 k

-- part j has the name x
abbrev pub has_name : (ℕ → ℕ) → ℕ → ℕ → Bool
has_name names x j = eqb (names j) x

-- x is one of the first k names
abbrev pub stood_earlier : (ℕ → ℕ) → ℕ → ℕ → Bool
stood_earlier names x k = ltb (first (has_name names x) k) k

-- the name `PRIV`, as a number
abbrev pub priv : ℕ
priv = u32_at (80 ∷ 82 ∷ 73 ∷ 86 ∷ []) 0

-- "no name occurs twice"; document 02, Ask 8: "PRIV may repeat; every other name still may not". Which names may repeat is said here and
-- nowhere else.
unfoldable pub may_repeat : ℕ → Bool
may_repeat x = eqb x priv

-- a part with the name x may stand after the first k
unfoldable pub may_stand : (ℕ → ℕ) → ℕ → ℕ → Bool
may_stand names x k = may_repeat x || not (stood_earlier names x k)

-- 9: "a name stood earlier", "and 9 reads so"; the place is the part
unfoldable pub name_judged : (ℕ → ℕ) → ℕ → Verdict
name_judged names k = check (may_stand names (names k) k) 9 k

-- how many of the first k parts bear the name x
abbrev pub borne : (ℕ → ℕ) → ℕ → ℕ → ℕ
borne names x k = count_below (has_name names x) k

-- "how many earlier parts bear its name"
abbrev pub occurrence_at : (ℕ → ℕ) → ℕ → ℕ
occurrence_at names k = borne names (names k) k

-- "and how many gap bytes lie before its header": after the part before it; for the first, after the offset table
unfoldable pub gap_at : List ℕ → ℕ → ℕ
gap_at b k = offset_at b k - earliest b k

-- 1 to 7, in the order of checking
unfoldable pub header_judged : List ℕ → Verdict
header_judged b =
    check (leb 32 (length b)) 1 0
    then check (leb (length b) 16777216) 2 0
    then check (eqb (u32_at b 0) (u32_at magic 0)) 3 0
    then check (eqb (u16_at b 20) 1 && eqb (u16_at b 22) 0) 4 0
    then check (eqb (u32_at b 24) (length b)) 5 0
    then check (leb (count_of b) 96) 6 0
    then check (leb (32 + 4 * count_of b) (length b)) 7 0

-- 8 of every part, "first such part, from 0", and then 9 of every part, "first such part"
unfoldable pub parts_judged : List ℕ → Verdict
parts_judged b = each (part_judged b) (count_of b) then each (name_judged (name_at b)) (count_of b)

-- 1 to 9: "The table reader gives 1 to 9"
unfoldable pub table_judged : List ℕ → Verdict
table_judged b = header_judged b then parts_judged b

-- "the bytes after the last part (with no part, after the offset table)"
unfoldable pub after_parts : List ℕ → ℕ
after_parts b = length b - earliest b (count_of b)

-- "the gaps, the part headers and data, the header, the offset table and the bytes after the last part"
unfoldable pub accounted : List ℕ → ℕ
accounted b = 32 + 4 * count_of b + sum_below (gap_at b) (count_of b) + sum_below (λ k. 8 + size_at b k) (count_of b) + after_parts b

-- "Part table arrays built as 96 zero entries, filled up to the count"
abbrev pub filled : (ℕ → ℕ) → ℕ → List ℕ
filled f zero = replicate 96 0
filled f (suc k) = set (filled f k) k (f k)

-- what a reader shows: a refusal has count 0 and zero entries. Whether it counted the pairs of names that it compared, and their number m, stand
-- "beside its answer or refusal" (document 02, Ask 12; `Pairs`).
abbrev pub refused_table : Bool → ℕ → Verdict → Table
refused_table counting m v =
    record {
      verdict = under v tt;
      count = 0;
      counted = counting;
      pairs = m;
      names = replicate 96 0;
      offsets = replicate 96 0;
      sizes = replicate 96 0;
      occurrences = replicate 96 0;
      gaps = replicate 96 0;
    }

abbrev pub accepted_table : Bool → ℕ → List ℕ → Table
accepted_table counting m b =
    record {
      verdict = Ok tt;
      count = count_of b;
      counted = counting;
      pairs = m;
      names = filled (name_at b) (count_of b);
      offsets = filled (offset_at b) (count_of b);
      sizes = filled (size_at b) (count_of b);
      occurrences = filled (occurrence_at (name_at b)) (count_of b);
      gaps = filled (gap_at b) (count_of b);
    }

abbrev pub table_if : Bool → ℕ → Verdict → List ℕ → Table
table_if counting m Accepted b = accepted_table counting m b
table_if counting m (Refused n p) b = refused_table counting m (Refused n p)

-- the part table of a container, or its refusal
unfoldable pub table_with : Bool → ℕ → List ℕ → Table
table_with counting m b = table_if counting m (table_judged b) b

-- for who doesn't ask for the pairs
abbrev pub table_of : List ℕ → Table
table_of b = table_with false 0 b
