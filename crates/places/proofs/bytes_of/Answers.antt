use native.Mathlib.Omega.{arith}
use Rattle.places.proofs.Numbers.{product_fits}
use Rattle.places.proofs.bytes_of.Goals as goal

pub overflow_mul-result : goal.overflow_mul-result
overflow_mul-result c = record { fits = omega (arith, product_fits _ _ c.ranges.count.fits c.ranges.size.fits) }
