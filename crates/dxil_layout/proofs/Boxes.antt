-- Worked examples of DXIL data, as rows of one list: what the definitions give, and beside it what the layout says.
-- Assumes nothing.
use Prim.Native.Nat.{ℕ}
use mathlib.Core.Path.{◌≡◌, refl}
use mathlib.Core.List.{List, [], ◌∷◌, ◌++◌}
use lib.ListN.{take}
use Rattle.wire.specs.Number.{u16_at, u32_at}
use Rattle.wire.specs.Verdict.{◌then◌, check, under, Accepted, Refused}
use Rattle.std.specs.Prelude.{Result, Ok, Err}
use Rattle.wire.specs.declared.Refusal.{Refusal}
use Rattle.dxil_layout.specs.Program.{header_of, bitcode_start, bitcode_end, program_judged, program_of, bitcode_of}
use Rattle.dxil_layout.specs.declared.Program.{Program}
use Rattle.dxil_layout.specs.declared.ProgramHeader.{ProgramHeader}

-- a number below 256, in four bytes, and the greatest
abbrev word : ℕ → List ℕ
word n = n ∷ 0 ∷ 0 ∷ 0 ∷ []

abbrev most : List ℕ
most = 255 ∷ 255 ∷ 255 ∷ 255 ∷ []

-- the mark
abbrev dxil : List ℕ
dxil = 68 ∷ 88 ∷ 73 ∷ 76 ∷ []

-- version 14.5, an unused byte, stage 261, size 0x0a0b0c0d; the mark, version 1.7, 2 unused; the bitcode's offset and size; three bytes
abbrev made : List ℕ → List ℕ → List ℕ → List ℕ
made m o s =
    (229 ∷ 17 ∷ 5 ∷ 1 ∷ 13 ∷ 12 ∷ 11 ∷ 10 ∷ []) ++ m ++ (7 ∷ 1 ∷ 238 ∷ 238 ∷ []) ++ o ++ s ++ (1 ∷ 2 ∷ 3 ∷ [])

-- its fields, with the offset and the size
abbrev fields : ℕ → ℕ → ProgramHeader
fields o s =
    record {
      version_major = 14;
      version_minor = 5;
      stage = 261;
      words = 168496141;
      bitcode_major = 1;
      bitcode_minor = 7;
      bitcode_offset = o;
      bitcode_size = s;
    }

pub data Row : Type 0 where
  reads : Result Program Refusal → List ℕ → Row

abbrev by : List ℕ → Row
by d = reads (program_of d) (bitcode_of d)

abbrev accepted : ℕ → ℕ → ℕ → List ℕ → Row
accepted o s start bytes = reads (Ok (record { header = fields o s; start = start; len = s })) bytes

abbrev refused : ℕ → Row
refused n = reads (Err (record { number = n; place = 0 })) []

abbrev given : List Row
given =
    by (made dxil (word 16) (word 3))
    ∷ by (take 24 (made dxil (word 16) (word 0)))
    ∷ by (made dxil (word 0) (word 4))
    ∷ by (take 23 (made dxil (word 16) (word 0)))
    ∷ by (made (68 ∷ 88 ∷ 73 ∷ 77 ∷ []) (word 16) (word 3))
    ∷ by (made dxil (word 16) (word 4))
    ∷ by (made dxil most most)
    ∷ by (made dxil (248 ∷ 255 ∷ 255 ∷ 255 ∷ []) (word 16))
    ∷ []

abbrev said : List Row
said =
    -- 8 + offset + size is the length; no bitcode after the 24 bytes; an offset below 16: the bitcode is the mark
    accepted 16 3 24 (1 ∷ 2 ∷ 3 ∷ [])
    ∷ accepted 16 0 24 []
    ∷ accepted 0 4 8 (68 ∷ 88 ∷ 73 ∷ 76 ∷ [])
    -- 40: 23 bytes. 41: another mark. 42: one above the length, past 2^32, and past it by few enough to look inside in 32 bits
    ∷ refused 40
    ∷ refused 41
    ∷ refused 42
    ∷ refused 42
    ∷ refused 42
    ∷ []

pub boxes_hold : given ≡ said
unfolding u16_at u32_at ◌then◌ check under header_of bitcode_start bitcode_end program_judged program_of bitcode_of
boxes_hold = refl
