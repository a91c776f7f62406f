use Rattle.qollqamir.proofs.Crossing.{crossed}
use Rattle.qollqamir.proofs.qollqamir_places_view.Goals as goal

pub returns-then-kind-eq4 : goal.returns-then-kind-eq4
returns-then-kind-eq4 c = rw c.if-kind-eq4.true (crossed c.mask.ensures c.into.ensures)

pub returns : goal.returns
returns c = crossed (rw c.view_of.ensures at c.view_span.ensures) c.into-2.ensures
