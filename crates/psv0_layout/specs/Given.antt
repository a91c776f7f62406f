-- Checks of sections that are given one by one, and not laid out as PSV0 data.
use Rattle.std.specs.Prelude.{List, [], ℕ, ◌/◌, length}
use Rattle.wire.specs.Number.{u32_at}
use Rattle.wire.specs.Verdict.{◌then◌, check, from, Verdict}
use Rattle.psv0_layout.specs.Judged.{fields_judged, elements_judged}
use Rattle.psv0_layout.specs.Layout.{Body, rows}
use Rattle.psv0_layout.specs.Reference.{string_good}

-- the strings t, the indices x and the elements e, 16 bytes each, as a reading looks at them
abbrev pub tables : List ℕ → List ℕ → List ℕ → Body
tables t x e = record { strings = t; indices = x; elements = rows 16 (length e / 16) 16 e; masks = [] }

-- 15 to 17 and 22 to 24, where er is the edition read and r the runtime record
unfoldable pub sections_judged : ℕ → List ℕ → List ℕ → List ℕ → List ℕ → Verdict
sections_judged er r t x e =
    from 1 er
    (fields_judged r then elements_judged (tables t x e) then from 3 er (check (string_good t (u32_at r 48)) 24 0))
