-- What the container assembler is given, what it writes, and when it refuses.
use Rattle.std.specs.Prelude.{Bool, ◌&&◌, List, [], ◌∷◌, ◌++◌, ℕ, zero, suc, ◌+◌, ◌-◌, ◌*◌, ◌/◌, leb, eqb, length, get_or, take, drop, replicate}
use Rattle.wire.specs.Number.{u32_at, le16, le32}
use Rattle.wire.specs.Verdict.{◌then◌, check, each, Verdict}
use Rattle.part_table_layout.specs.Table.{magic, offset_bytes, name_judged}

-- "names, sizes, data end to end, and a digest"; the number of parts is the number of sizes
pub record Parts : Type 0 where
  pub names : List ℕ
  pub sizes : List ℕ
  pub bytes : List ℕ
  pub digest : List ℕ

unfoldable pub total : List ℕ → ℕ
total [] = 0
total (x ∷ xs) = x + total xs

abbrev pub part_count : Parts → ℕ
part_count g = length g.sizes

abbrev pub size_given : Parts → ℕ → ℕ
size_given g k = get_or g.sizes k 0

-- part k's name as one number, its four bytes, and its data
abbrev pub name_given : Parts → ℕ → ℕ
name_given g k = u32_at g.names (4 * k)

unfoldable pub name_bytes : Parts → ℕ → List ℕ
name_bytes g k = take 4 (drop (4 * k) g.names)

unfoldable pub data_given : Parts → ℕ → List ℕ
data_given g k = take (size_given g k) (drop (total (take k g.sizes)) g.bytes)

-- "Parts start at multiples of 4, as early as possible"
abbrev pub round_up : ℕ → ℕ
round_up n = (n + 3) / 4 * 4

-- the end of what stands before part k: of the offset table, or of the part before it; and where part k starts
unfoldable pub end_before : Parts → ℕ → ℕ
end_before g zero = 32 + 4 * part_count g
end_before g (suc k) = round_up (end_before g k) + 8 + size_given g k

abbrev pub start_of : Parts → ℕ → ℕ
start_of g k = round_up (end_before g k)

-- "The file ends with the last part's data"
abbrev pub file_length : Parts → ℕ
file_length g = end_before g (part_count g)

-- the offsets of the m parts from part k on
abbrev pub offsets_from : Parts → ℕ → ℕ → List ℕ
offsets_from g k m = offset_bytes (start_of g) k m

-- part k with what fills the space before it: "filler is zero and isn't counted in the part's size, but is in the file"
unfoldable pub part_bytes : Parts → ℕ → List ℕ
part_bytes g k = replicate (start_of g k - end_before g k) 0 ++ (name_bytes g k ++ (le32 (size_given g k) ++ data_given g k))

-- the m parts from part k on
unfoldable pub parts_from : Parts → ℕ → ℕ → List ℕ
parts_from g k zero = []
parts_from g k (suc m) = part_bytes g k ++ parts_from g (suc k) m

-- the container: magic, digest, version 1.0, file size, part count, offsets, parts
unfoldable pub assembled : Parts → List ℕ
assembled g =
    magic
    ++ (g.digest
    ++ (le16 1
    ++ (le16 0
    ++ (le32 (file_length g)
    ++ (le32 (part_count g)
    ++ (offsets_from g 0 (part_count g)
    ++ parts_from g 0 (part_count g)))))))

-- 27: "not four name bytes a part, a digest not of 16, sizes not summing to the data"
unfoldable pub parts_right : Parts → Bool
parts_right g =
    eqb (length g.names) (4 * part_count g) && eqb (length g.digest) 16 && eqb (total g.sizes) (length g.bytes)

-- "Order: 27, 6, 9, 2, 28"; the place of 9 is the first such part; room is the output's length
unfoldable pub assembly_judged : Parts → ℕ → Verdict
assembly_judged g room =
    check (parts_right g) 27 0
    then check (leb (part_count g) 96) 6 0
    then each (name_judged (name_given g)) (part_count g)
    then check (leb (file_length g) 16777216) 2 0
    then check (leb (file_length g) room) 28 0
