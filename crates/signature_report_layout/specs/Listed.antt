-- A list of PSV0's elements as the report's code has it: the string table t, the records e of all elements, and of the list how many elements
-- stand before it and how many it has.
use Rattle.std.specs.Prelude.{None, Option, Some}
use Rattle.std.specs.Prelude.{List, ℕ, ◌+◌, ◌*◌, ◌/◌, ltb, length}
use Rattle.wire.specs.Number.{u32_at}
use Rattle.psv0_layout.specs.Reference.{string_at}
use Rattle.psv0_layout.specs.Shown.{Value, view, set_if}
use Rattle.signature_report_layout.specs.Reported.{list_size, list_before}
use Rattle.signature_report_layout.specs.declared.SignaturePart.{SignaturePart}

-- a count as a field: none where it is unset
abbrev pub count_in : Option ℕ → ℕ
count_in (Some n) = n
count_in None = 0

-- the name of element i of the list, where records are w bytes apart
unfoldable pub listed : List ℕ → List ℕ → ℕ → ℕ → ℕ → ℕ → Value
listed t e before size w i = set_if (ltb i size) (view (string_at t (u32_at e ((before + i) * w))))

-- the names of the part's list, by the counts n of input, m of output and c of patch constant or primitive elements: the records are as far apart as
-- so many fill e
unfoldable pub list_of : SignaturePart → ℕ → ℕ → ℕ → List ℕ → List ℕ → ℕ → Value
list_of s n m c t e = listed t e (list_before s n m) (list_size s n m c) (length e / (n + m + c))
