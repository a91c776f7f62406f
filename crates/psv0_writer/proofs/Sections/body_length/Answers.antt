use native.Mathlib.Omega.{arith}
use Rattle.psv0_writer_layout.specs.Stretch.{body_length}
use Rattle.psv0_writer.proofs.Sections.body_length.Goals as goal

pub returns : goal.returns
unfolding body_length
returns c = omega arith
