use Rattle.qollqamir.proofs.Crossing.{no_placed_section, some_placed_section}
use Rattle.qollqamir.proofs.qollqamir_places_section.Goals as goal

pub returns-in-Some : goal.returns-in-Some
returns-in-Some c = some_placed_section _ c.section_of.ensures c.into.ensures _ _ c.in-Some.is c.section_span.ensures

pub returns-in-None : goal.returns-in-None
returns-in-None c = no_placed_section _ c.section_of.ensures c.into-in-None.ensures _ _ c.in-None.is c.refused.ensures
