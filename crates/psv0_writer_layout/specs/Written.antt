-- What the PSV0 writer is given, what it writes, and when it refuses.
use Rattle.std.specs.Prelude.{Bool, ◌&&◌, ◌||◌, List, [], ◌++◌, ℕ, ◌+◌, ◌*◌, ◌/◌, ◌%◌, leb, eqb, length, drop}
use Rattle.constants.specs.Edition.{size_of}
use Rattle.wire.specs.Choice.{choose}
use Rattle.wire.specs.Verdict.{◌then◌, check, Verdict, Accepted, Refused}
use Rattle.psv0_layout.specs.Field.{element_total, mask_bytes_of}
use Rattle.psv0_layout.specs.Judged.{opened}
use Rattle.psv0_layout.specs.Laid.{head_laid, body_laid}
use Rattle.psv0_layout.specs.Layout.{Records, Sections}

-- "the runtime record .. and resource records, strings, indices, elements and mask words as bytes"
pub record Given : Type 0 where
  pub runtime : List ℕ
  pub resources : List ℕ
  pub strings : List ℕ
  pub indices : List ℕ
  pub elements : List ℕ
  pub masks : List ℕ

-- "resource records (16 bytes each for e 0 and 1, else 24)"
abbrev pub resource_size_of : ℕ → ℕ
resource_size_of e = choose (leb 2 e) 24 16

-- bytes as records of s bytes; with none, there is no record size
unfoldable pub records_from : ℕ → List ℕ → Records
records_from s b = record { count = length b / s; stride = choose (eqb (length b / s) 0) 0 s; bytes = b }

-- the sections that are written; "elements (16 each)"
unfoldable pub sections_from : ℕ → Given → Sections
sections_from e g =
    record {
      runtime = g.runtime;
      resources = records_from (resource_size_of e) g.resources;
      strings = g.strings;
      indices = g.indices;
      elements = records_from 16 g.elements;
      masks = g.masks;
    }

-- the PSV0 data: sections 1 and 2, from edition 1 on 3 to 6, and nothing after them
unfoldable pub written : ℕ → Given → List ℕ
written e g = head_laid (sections_from e g) (choose (leb 1 e) (body_laid (sections_from e g) []) [])

-- 27: "the runtime record has another size; a section isn't whole records, words or 4-byte groups, disagrees with the counts or the mask
-- total, or, resources apart, isn't empty where e is 0"
unfoldable pub lengths_right : ℕ → Given → Bool
lengths_right e g =
    eqb (length g.runtime) (size_of e)
    && eqb (length g.resources % resource_size_of e) 0
    && eqb (length g.strings % 4) 0
    && eqb (length g.indices % 4) 0
    && eqb (length g.elements) (element_total g.runtime * 16)
    && eqb (length g.masks) (mask_bytes_of g.runtime)
    && (leb 1 e || eqb (length g.strings + length g.indices + length g.elements + length g.masks) 0)

-- "Order: 25; 27; 2, when the result would be too long; 15 to 24 as reader 3 would answer; 28", where room is the output's length
unfoldable pub writer_judged : ℕ → Given → ℕ → Verdict
writer_judged e g room =
    check (leb e 3) 25 0
    then check (lengths_right e g) 27 0
    then check (leb (length (written e g)) 16777216) 2 0
    then opened 3 (written e g)
    then check (leb (length (written e g)) room) 28 0

-- the output at exit: "bytes past a writer's result keep their contents"; a refusal leaves every byte as it was
abbrev pub output_if : Verdict → List ℕ → List ℕ → List ℕ
output_if Accepted l out = l ++ drop (length l) out
output_if (Refused n p) l out = out
