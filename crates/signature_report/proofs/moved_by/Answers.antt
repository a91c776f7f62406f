use native.Mathlib.Omega.{arith}
use Rattle.signature_report_layout.proofs.Steps.{stays, moves}
use Rattle.signature_report.proofs.moved_by.Goals as goal

pub overflow_add-result : goal.overflow_add-result
overflow_add-result c = omega (arith, c.requires _ c.in-Some.is)

pub returns-in_default : goal.returns-in_default
returns-in_default c = stays _ _ c.in_default.is

pub returns : goal.returns
returns c = moves _ c.args.a c.in-Some.is
