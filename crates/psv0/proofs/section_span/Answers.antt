use Rattle.psv0.proofs.Openings.{section_accepted, section_refused}
use Rattle.psv0.proofs.section_span.Goals as goal

pub returns-in_err-o : goal.returns-in_err-o
returns-in_err-o c = section_refused _ _ c.open_places.ensures c.in_err-o.was c.from_residual.ensures c.args.section

pub returns : goal.returns
returns c = section_accepted _ _ c.open_places.ensures c.in_ok-o.was c.args.section _ c.section_span.ensures
