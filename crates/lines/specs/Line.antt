-- The lines that the programs print, as document 01 has them in "Boxes to try".
use Rattle.std.specs.Prelude.{◌&&◌, List, [], ◌∷◌, ◌++◌, ℕ, ◌/◌, ◌%◌, leb, length, drop, replicate}
use Rattle.constants.specs.Name.{is_known}
use Rattle.wire.specs.Choice.{choose}
use Rattle.lines.specs.Number.{decimal}
use Rattle.lines.specs.declared.Line.{Line}

-- `accepted `, `refused `, ` known` and ` unknown` with a line feed
abbrev pub accepted : List ℕ
accepted = 97 ∷ 99 ∷ 99 ∷ 101 ∷ 112 ∷ 116 ∷ 101 ∷ 100 ∷ 32 ∷ []

abbrev pub refused : List ℕ
refused = 114 ∷ 101 ∷ 102 ∷ 117 ∷ 115 ∷ 101 ∷ 100 ∷ 32 ∷ []

abbrev pub known : List ℕ
known = 32 ∷ 107 ∷ 110 ∷ 111 ∷ 119 ∷ 110 ∷ 10 ∷ []

abbrev pub unknown : List ℕ
unknown = 32 ∷ 117 ∷ 110 ∷ 107 ∷ 110 ∷ 111 ∷ 119 ∷ 110 ∷ 10 ∷ []

abbrev pub space : List ℕ
space = 32 ∷ []

abbrev pub feed : List ℕ
feed = 10 ∷ []

-- two numbers, a space between them
unfoldable pub numbers : ℕ → ℕ → List ℕ
numbers m n = decimal m ++ (space ++ decimal n)

-- "`accepted 0 2` (file's edition, parts)"
unfoldable pub accepted_line : ℕ → ℕ → List ℕ
accepted_line e n = (accepted ++ numbers e n) ++ feed

-- "A refusal is one line, as `refused 1 0`"
unfoldable pub refused_line : ℕ → ℕ → List ℕ
refused_line n p = (refused ++ numbers n p) ++ feed

-- "Name bytes outside 33 to 126 print as `?`"
unfoldable pub printable : ℕ → ℕ
printable c = choose (leb 33 c && leb c 126) c 63

-- a name, given as its number: its four bytes, least first
unfoldable pub name_text : ℕ → List ℕ
name_text x = printable (x % 256) ∷ printable (x / 256 % 256) ∷ printable (x / 65536 % 256) ∷ printable (x / 16777216 % 256) ∷ []

-- "marks each as known or unknown", to the end of the line
unfoldable pub mark : ℕ → List ℕ
mark x = choose (is_known x) known unknown

-- "`DXIL 40 4 known` .. (header offset, size)"
unfoldable pub part_line : ℕ → ℕ → ℕ → List ℕ
part_line x offset size = (name_text x ++ (space ++ numbers offset size)) ++ mark x

-- a line of at most 64 bytes as the programs have it: its bytes, zeros after them, and its length
unfoldable pub line_of : List ℕ → Line
line_of s = record { bytes = s ++ drop (length s) (replicate 64 0); len = length s }
