use native.Mathlib.Omega.{arith}
use Rattle.wire.proofs.Stretches.{rest_copied}
use Rattle.psv0_writer_layout.proofs.Sections.{number_written}
use Rattle.psv0_writer.proofs.write_counted.Goals as goal

pub returns : goal.returns
returns c =
    rest_copied (number_written _ _ (omega arith) c.put_u32.ensures) (omega arith) _ (omega arith) c.copy.ensures
