-- The data d of a DXIL part: the program header, the bitcode header in it and the bitcode. Document 02, Ask 1; the fields are those of
-- `ProgramHeader` and `BitcodeHeader` in the public LLVM header. All of it is total: past the end a byte is 0.
use Rattle.std.specs.Prelude.{Result, List, [], ◌∷◌, ℕ, ◌+◌, ◌/◌, ◌%◌, leb, eqb, length, get_or, take, drop}
use Rattle.wire.specs.Number.{u16_at, u32_at}
use Rattle.wire.specs.Verdict.{◌then◌, check, under, Verdict, Accepted, Refused}
use Rattle.wire.specs.declared.Refusal.{Refusal}
use Rattle.dxil_layout.specs.declared.Program.{Program}
use Rattle.dxil_layout.specs.declared.ProgramHeader.{ProgramHeader}

-- "the four bytes `DXIL`", at byte 8, where the bitcode header starts
abbrev pub mark : List ℕ
mark = 68 ∷ 88 ∷ 73 ∷ 76 ∷ []

-- "version byte (minor in the low four bits, major in the high four), an unused byte, stage (2 bytes), size in 4-byte units (4); then the
-- bitcode header: the four bytes `DXIL`, minor, major, 2 unused, offset from the bitcode header's start (4), size (4)"
unfoldable pub header_of : List ℕ → ProgramHeader
header_of d =
    record {
      version_major = get_or d 0 0 / 16;
      version_minor = get_or d 0 0 % 16;
      stage = u16_at d 2;
      words = u32_at d 4;
      bitcode_major = get_or d 13 0;
      bitcode_minor = get_or d 12 0;
      bitcode_offset = u32_at d 16;
      bitcode_size = u32_at d 20;
    }

-- where the bitcode starts and ends: its offset counts from the bitcode header's start, byte 8. The sums are exact
unfoldable pub bitcode_start : List ℕ → ℕ
bitcode_start d = 8 + u32_at d 16

unfoldable pub bitcode_end : List ℕ → ℕ
bitcode_end d = 8 + u32_at d 16 + u32_at d 20

-- "its own refusals (40 to 42: under 24 bytes, wrong mark, bitcode ending past the part, in this order)"; place 0. An offset below 16, the
-- unused bytes and the size in units are not judged
unfoldable pub program_judged : List ℕ → Verdict
program_judged d =
    check (leb 24 (length d)) 40 0
    then check (eqb (u32_at d 8) (u32_at mark 0)) 41 0
    then check (leb (bitcode_end d) (length d)) 42 0

-- what is shown of data that are accepted
abbrev pub program_shown : List ℕ → Program
program_shown d = record { header = header_of d; start = bitcode_start d; len = u32_at d 20 }

unfoldable pub program_of : List ℕ → Result Program Refusal
program_of d = under (program_judged d) (program_shown d)

-- "a view of the bitcode": no bytes beside a refusal
abbrev pub bitcode_if : Verdict → List ℕ → List ℕ
bitcode_if Accepted d = take (u32_at d 20) (drop (bitcode_start d) d)
bitcode_if (Refused n p) d = []

unfoldable pub bitcode_of : List ℕ → List ℕ
bitcode_of d = bitcode_if (program_judged d) d
