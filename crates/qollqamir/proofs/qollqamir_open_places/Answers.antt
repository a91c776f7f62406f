use native.Mathlib.Omega.{arith}
use Rattle.qollqamir.proofs.Crossing.{opened_small}
use Rattle.qollqamir.proofs.qollqamir_open_places.Goals as goal

pub overflow_cast-result : goal.overflow_cast-result
overflow_cast-result c = omega (arith, opened_small _ _ c.open_places.ensures c.in-Ok.is)

pub overflow_cast-result-in-Ok : goal.overflow_cast-result-in-Ok
overflow_cast-result-in-Ok c = omega (arith, opened_small _ _ c.open_places.ensures c.in-Ok.is)
