-- What the small program prints: "reads a container of at most 65,536 bytes from standard input and prints its table or its refusal".
use Rattle.std.specs.Prelude.{List, [], ◌∷◌, ◌++◌, ℕ, zero, suc, leb, length, drop, replicate}
use Rattle.constants.specs.Edition.{file_edition_of}
use Rattle.container_layout.specs.Container.{psv_of, container_judged}
use Rattle.inspect_text.specs.declared.Output.{Output}
use Rattle.lines.specs.Line.{accepted_line, refused_line, part_line}
use Rattle.part_table_layout.specs.Table.{count_of, name_at, offset_at, size_at}
use Rattle.wire.specs.Choice.{choose}
use Rattle.wire.specs.Number.{u32_at}
use Rattle.wire.specs.Verdict.{Verdict, Accepted, Refused}

-- the lines of the first n parts, in order
unfoldable pub part_lines : List ℕ → ℕ → List ℕ
part_lines b zero = []
part_lines b (suc n) = part_lines b n ++ part_line (name_at b n) (offset_at b n) (size_at b n)

-- the file's edition, the number of parts and the parts, or the refusal
unfoldable pub printed_if : Verdict → List ℕ → List ℕ
printed_if Accepted b = accepted_line (file_edition_of (u32_at (psv_of b) 0)) (count_of b) ++ part_lines b (count_of b)
printed_if (Refused n p) b = refused_line n p

-- what an opening at edition k lets it print
unfoldable pub printed_at : ℕ → List ℕ → List ℕ
printed_at k b = printed_if (container_judged k b) b

-- `too long` with a line feed: "A longer one gets the line `too long`"
abbrev pub too_long : List ℕ
too_long = 116 ∷ 111 ∷ 111 ∷ 32 ∷ 108 ∷ 111 ∷ 110 ∷ 103 ∷ 10 ∷ []

-- "the small program must name edition 1" (document 02, Ask 5): whatever an opening that names none reads, this is what it prints
unfoldable pub inspected : List ℕ → List ℕ
inspected b = choose (leb (length b) 65536) (printed_at 1 b) too_long

-- a text of at most 6,208 bytes as the program has it: its bytes, zeros after them, and its length
unfoldable pub output_of : List ℕ → Output
output_of s = record { bytes = s ++ drop (length s) (replicate 6208 0); len = length s }
