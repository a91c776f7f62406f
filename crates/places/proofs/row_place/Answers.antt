use native.Mathlib.Omega.{arith}
use Rattle.places.proofs.Numbers.{product_fits}
use Rattle.places.proofs.row_place.Goals as goal

pub overflow_mul-result : goal.overflow_mul-result
overflow_mul-result c = record { fits = omega (arith, product_fits _ _ c.requires c.ranges.size.fits) }

pub overflow_add-result : goal.overflow_add-result
overflow_add-result c = record { fits = omega (arith, product_fits _ _ c.requires c.ranges.size.fits, c.ranges.first.fits) }
