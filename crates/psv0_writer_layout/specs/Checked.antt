-- 15 to 24 of what the writer is given: what its code checks before it writes. proofs/Writing.antt joins this with `writer_judged`.
use Rattle.std.specs.Prelude.{ℕ, ◌/◌, length}
use Rattle.wire.specs.Number.{u32_at}
use Rattle.wire.specs.Verdict.{◌then◌, check, from, Verdict}
use Rattle.psv0_layout.specs.Judged.{fields_judged, elements_judged}
use Rattle.psv0_layout.specs.Layout.{Body, rows}
use Rattle.psv0_layout.specs.Reference.{string_good}
use Rattle.psv0_writer_layout.specs.Written.{Given}

-- sections 3 to 6 as a reading looks at them
unfoldable pub body_from : Given → Body
body_from g =
    record {
      strings = g.strings;
      indices = g.indices;
      elements = rows 16 (length g.elements / 16) 16 g.elements;
      masks = g.masks;
    }

-- 15 to 17, 22 to 24: "15 to 23 are checked only for edition read 1 or more, 24 only for 3"
unfoldable pub given_judged : ℕ → Given → Verdict
given_judged e g =
    from 1 e
    (fields_judged g.runtime
    then elements_judged (body_from g)
    then from 3 e (check (string_good g.strings (u32_at g.runtime 48)) 24 0))
