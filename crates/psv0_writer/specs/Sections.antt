-- The bytes of each section, as the writer's code holds them.
use Rattle.psv0_writer.specs.declared.Sections.{Sections}
use Rattle.psv0_writer_layout.specs.Answer.{given}
use Rattle.psv0_writer_layout.specs.Written.{Given}

abbrev pub given_by : Sections → Given
given_by s = given s.runtime.now s.resources.now s.strings.now s.indices.now s.elements.now s.masks.now
