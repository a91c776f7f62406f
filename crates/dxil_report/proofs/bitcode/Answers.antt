use mathlib.Core.Path.{◌∙◌, ap}
use Rattle.dxil_layout.specs.Program.{bitcode_of}
use Rattle.dxil_report_layout.proofs.Steps.{bitcode_is}
use Rattle.dxil_report.proofs.bitcode.Goals as goal

pub returns : goal.returns
returns c = c.bitcode.ensures ∙ ap bitcode_of c.part_bytes.ensures ∙ bitcode_is _ _
