-- What the assembler is given, as its code holds it.
use Rattle.assembler.specs.declared.Parts as code
use Rattle.assembler_layout.specs.Answer.{given}
use Rattle.assembler_layout.specs.Assembled.{Parts}

abbrev pub parts_of : code.Parts → Parts
parts_of g = given g.names.now g.sizes.now g.«data».now g.digest.now
