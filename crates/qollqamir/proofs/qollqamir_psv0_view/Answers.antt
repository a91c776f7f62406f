use Rattle.qollqamir.proofs.Crossing.{crossed}
use Rattle.qollqamir.proofs.qollqamir_psv0_view.Goals as goal

pub returns : goal.returns
returns c = crossed (rw c.view_of.ensures at c.view_span.ensures) c.into.ensures
