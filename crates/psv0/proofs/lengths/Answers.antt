use mathlib.Core.Path.{ap, ◌∙◌}
use Rattle.std.specs.Prelude.{Ok}
use Rattle.psv0_layout.specs.Answers.{lengths_answer_of}
use Rattle.psv0.proofs.Openings.{lengths_accepted, opening_refused}
use Rattle.psv0.proofs.lengths.Goals as goal

pub returns-in_err-o : goal.returns-in_err-o
unfolding lengths_answer_of
returns-in_err-o c = opening_refused _ _ c.open_places.ensures c.in_err-o.was c.from_residual.ensures _

pub returns : goal.returns
returns c = ap Ok c.lengths.ensures ∙ lengths_accepted _ _ c.open_places.ensures c.in_ok-o.was
