-- What the container assembler answers, and what its output holds afterwards.
use Rattle.std.specs.Prelude.{◌≡◌, true, List, [], ◌++◌, ℕ, ◌≤◌, Result, length, drop}
use Rattle.wire.specs.Number.{le16, le32}
use Rattle.wire.specs.Verdict.{under, Verdict, Accepted, Refused}
use Rattle.wire.specs.declared.Refusal.{Refusal}
use Rattle.part_table_layout.specs.Table.{magic}
use Rattle.assembler_layout.specs.Assembled.{Parts, file_length, offsets_from, parts_right, assembled, assembly_judged}

-- "names, sizes, data end to end, and a digest"
abbrev pub given : List ℕ → List ℕ → List ℕ → List ℕ → Parts
given names sizes bytes digest = record { names = names; sizes = sizes; bytes = bytes; digest = digest }

-- the length of the container, or the refusal
abbrev pub answer : Parts → ℕ → Result ℕ Refusal
answer g room = under (assembly_judged g room) (file_length g)

-- "bytes past a writer's result keep their contents"; a refusal leaves the output as it was
abbrev pub output_if : Verdict → Parts → List ℕ → List ℕ
output_if Accepted g o = assembled g ++ drop (length (assembled g)) o
output_if (Refused m p) g o = o

unfoldable pub output : Parts → List ℕ → List ℕ
output g o = output_if (assembly_judged g (length o)) g o

-- ---- the stretches of the output
-- what the checks tell where they all pass, at an output of the container's length
pub record Passed (g : Parts) (n : ℕ) : Type 0 where
  pub right : parts_right g ≡ true
  pub exact : n ≡ file_length g
  pub short : file_length g ≤ 16777216

-- the parts of which only the sizes matter
abbrev pub sized : List ℕ → Parts
sized s = given [] s [] []

-- the header, 32 bytes: magic, digest, version 1.0, file size, part count
unfoldable pub header_bytes : List ℕ → ℕ → ℕ → List ℕ
header_bytes digest len n = magic ++ (digest ++ (le16 1 ++ (le16 0 ++ (le32 len ++ le32 n))))

-- what stands before the first part: the header and the offsets
unfoldable pub front_bytes : List ℕ → ℕ → List ℕ → List ℕ
front_bytes digest len sizes = header_bytes digest len (length sizes) ++ offsets_from (sized sizes) 0 (length sizes)
