use Rattle.wire.proofs.Verdicts.{passed_on}
use Rattle.places_layout.specs.Placed.{opened_places}
use Rattle.psv0_sections.specs.Places.{located_of}
use Rattle.psv0.proofs.Openings.{reading, places_accepted}
use Rattle.psv0.proofs.open_places.Goals as goal

pub returns-in_err-p : goal.returns-in_err-p
unfolding located_of opened_places
returns-in_err-p c = passed_on _ _ c.locate.ensures _ c.from_residual.ensures c.in_err-p.was

pub record_of-requires : goal.record_of-requires
record_of-requires c = reading _ _ c.locate.ensures c.in_ok-p.was

pub returns : goal.returns
returns c = places_accepted _ _ c.locate.ensures c.in_ok-p.was _ _ c.edition_of.ensures c.record_of.ensures
