-- Sections laid out as bytes, one after the other.
use Rattle.std.specs.Prelude.{List, ◌++◌, ℕ, zero, suc, ◌/◌, length}
use Rattle.wire.specs.Number.{le32}
use Rattle.psv0_layout.specs.Layout.{Sections, Records}

-- n records of s bytes, before l: no bytes where there is none
unfoldable pub rows_laid : ℕ → ℕ → List ℕ → List ℕ → List ℕ
rows_laid zero s b l = l
rows_laid (suc n) s b l = le32 s ++ (b ++ l)

unfoldable pub records_laid : Records → List ℕ → List ℕ
records_laid t l = rows_laid t.count t.stride t.bytes l

-- sections 1 and 2, before l
unfoldable pub head_laid : Sections → List ℕ → List ℕ
head_laid s l = le32 (length s.runtime) ++ (s.runtime ++ (le32 s.resources.count ++ records_laid s.resources l))

-- sections 3 to 6, before l
unfoldable pub body_laid : Sections → List ℕ → List ℕ
body_laid s l =
    le32 (length s.strings)
    ++ (s.strings
    ++ (le32 (length s.indices / 4)
    ++ (s.indices
    ++ records_laid s.elements (s.masks ++ l))))
