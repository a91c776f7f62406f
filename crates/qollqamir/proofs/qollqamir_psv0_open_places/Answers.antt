use native.Mathlib.Omega.{arith}
use Rattle.qollqamir.proofs.Crossing.{psv_opened_small}
use Rattle.qollqamir.proofs.qollqamir_psv0_open_places.Goals as goal

pub overflow_cast-result : goal.overflow_cast-result
overflow_cast-result c = omega (arith, psv_opened_small _ _ c.open_places.ensures c.in-Ok.is)
