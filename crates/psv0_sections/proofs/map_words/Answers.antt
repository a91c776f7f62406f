use native.Mathlib.Omega.{arith}
use mathlib.Core.Path.{ap}
use Prim.Native.Nat.{ℕ, ◌*◌}
use Rattle.psv0_layout.proofs.Masks.{product_few}
use Rattle.psv0_sections.proofs.map_words.Goals as goal

pub overflow_mul-result : goal.overflow_mul-result
overflow_mul-result c = omega (arith, product_few c.words.result c.args.n c.words.ensures.1 c.requires.1)

pub overflow_mul-result-2 : goal.overflow_mul-result-2
overflow_mul-result-2 c = omega (arith, product_few c.words.result c.args.n c.words.ensures.1 c.requires.1)

pub returns : goal.returns
returns c = ap (λ (x : ℕ). x * c.args.n * 4) c.words.ensures.0
