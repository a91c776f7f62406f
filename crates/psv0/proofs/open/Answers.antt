use Rattle.wire.proofs.Verdicts.{passed_on}
use Rattle.psv0_sections.specs.Places.{located_of}
use Rattle.psv0.proofs.Openings.{opening_accepted}
use Rattle.psv0.proofs.open.Goals as goal

pub returns-in_err-p : goal.returns-in_err-p
unfolding located_of
returns-in_err-p c = passed_on _ _ c.locate.ensures _ c.from_residual.ensures c.in_err-p.was

pub returns : goal.returns
returns c = opening_accepted _ _ c.locate.ensures c.in_ok-p.was _ c.edition_of.ensures
