use native.Mathlib.Omega.{arith}
use Rattle.psv0_layout.proofs.Masks.{mask_few}
use Rattle.psv0.proofs.mask_word.Goals as goal

pub overflow_cast-result : goal.overflow_cast-result
overflow_cast-result c = record { fits = omega (arith, c.mask_words.ensures, mask_few c.args.r.now (record { below = λ k. (c.type_inv.r k).fits }) c.args.m) }
