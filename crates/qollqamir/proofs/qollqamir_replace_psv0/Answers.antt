use native.Mathlib.Omega.{arith}
use Rattle.qollqamir.proofs.Crossing.{replaced_small}
use Rattle.qollqamir.proofs.qollqamir_replace_psv0.Goals as goal

pub overflow_cast-result : goal.overflow_cast-result
overflow_cast-result c = omega (arith, replaced_small _ _ _ _ c.replace_psv0.ensures.answered c.in-Ok.is)
