use Rattle.psv0.proofs.Openings.{span_accepted, span_refused}
use Rattle.psv0.proofs.view_span.Goals as goal

pub returns-in_err-o : goal.returns-in_err-o
returns-in_err-o c = span_refused _ _ c.open_places.ensures c.in_err-o.was c.from_residual.ensures c.args.view

pub returns : goal.returns
returns c = span_accepted _ _ c.open_places.ensures c.in_ok-o.was c.args.view _ c.view_span.ensures
