use native.Mathlib.Omega.{arith}
use Rattle.psv0_writer_layout.specs.Stretch.{head_length}
use Rattle.psv0_writer.proofs.Sections.head_length.Goals as goal

pub returns : goal.returns
unfolding head_length
returns c = omega arith
