use mathlib.Core.Path.{◌∙◌}
use Rattle.psv0_layout.specs.Answers.{resource_answer_of}
use Rattle.psv0.proofs.Openings.{resource_accepted, query_refused}
use Rattle.psv0.proofs.resource.Goals as goal

pub returns-in_err-o : goal.returns-in_err-o
unfolding resource_answer_of
returns-in_err-o c = query_refused _ _ c.open_places.ensures c.in_err-o.was c.from_residual.ensures _ _

pub returns : goal.returns
returns c = c.resource.ensures ∙ resource_accepted _ _ c.open_places.ensures c.in_ok-o.was c.args.i
