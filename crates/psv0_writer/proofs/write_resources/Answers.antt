use mathlib.Core.Path.{◌∙◌}
use native.Mathlib.Omega.{arith}
use Rattle.wire.proofs.Stretches.{rest_written}
use Rattle.psv0_writer_layout.proofs.Sections.{number_written, records_length}
use Rattle.psv0_writer.proofs.write_resources.Goals as goal

pub returns : goal.returns
returns c =
    let p = c.args in
    rest_written (number_written _ _ (omega arith) c.put_u32.ensures) (omega arith) _ c.write_records.ensures
    (records_length p.size p.records.now ∙ omega arith)
