use mathlib.Core.Path.{◌∙◌}
use Rattle.psv0_layout.specs.Answers.{info_answer_of}
use Rattle.psv0.proofs.Openings.{info_accepted, opening_refused}
use Rattle.psv0.proofs.runtime_info.Goals as goal

pub returns-in_err-o : goal.returns-in_err-o
unfolding info_answer_of
returns-in_err-o c = opening_refused _ _ c.open_places.ensures c.in_err-o.was c.from_residual.ensures _

pub returns : goal.returns
returns c = c.runtime_info.ensures ∙ info_accepted _ _ c.open_places.ensures c.in_ok-o.was
