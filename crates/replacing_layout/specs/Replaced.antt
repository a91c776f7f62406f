-- A container with other PSV0 data (document 02, Ask 11): "keeps every byte outside it but the sizes and offsets, and moves what follows".
use Rattle.std.specs.Prelude.{None, Option, Some}
use Rattle.std.specs.Prelude.{List, ◌++◌, ℕ, suc, ◌+◌, ◌-◌, ◌*◌, length, take, drop}
use Rattle.wire.specs.Number.{le32}
use Rattle.part_table_layout.specs.Lookup.{find}
use Rattle.part_table_layout.specs.Table.{count_of, offset_at, offset_bytes, size_at, end_at}
use Rattle.container_layout.specs.Container.{psv0}

-- where what stood at the place o of the container b, after the data of part i, stands once those are n bytes long
abbrev pub moved : List ℕ → ℕ → ℕ → ℕ → ℕ
moved b i n o = o + n - size_at b i

-- the offset of part k then
abbrev pub moved_offset : List ℕ → ℕ → ℕ → ℕ → ℕ
moved_offset b i n k = moved b i n (offset_at b k)

-- "the .. offsets": those of the m parts from part k on, all of which stand after part i
abbrev pub moved_from : List ℕ → ℕ → ℕ → ℕ → ℕ → List ℕ
moved_from b i n k m = offset_bytes (moved_offset b i n) k m

-- the container b in which part i has the data new: up to the file size as in b, the file size, the part count and the offsets up to that of
-- part i as in b, the offsets of the parts after it, all up to the name of part i as in b, its size, its data, and what follows them in b
unfoldable pub replaced_at : List ℕ → ℕ → List ℕ → List ℕ
replaced_at b i new =
    take 24 b
    ++ (le32 (moved b i (length new) (length b))
    ++ (take (8 + 4 * i) (drop 28 b)
    ++ (moved_from b i (length new) (suc i) (count_of b - suc i)
    ++ (take (offset_at b i + 4 - (32 + 4 * count_of b)) (drop (32 + 4 * count_of b) b)
    ++ (le32 (length new)
    ++ (new
    ++ drop (end_at b i) b))))))

abbrev pub replaced_found : List ℕ → Option ℕ → List ℕ → List ℕ
replaced_found b (Some i) new = replaced_at b i new
replaced_found b None new = b

-- the container b with the PSV0 data new
unfoldable pub replaced : List ℕ → List ℕ → List ℕ
replaced b new = replaced_found b (find b psv0) new
