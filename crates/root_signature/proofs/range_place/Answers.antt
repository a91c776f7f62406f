use native.Mathlib.Omega.{arith}
use native.Mathlib.Nat.{mul-le-mul_right}
use Rattle.root_signature_layout.specs.Root.{range_size}
use Rattle.root_signature.proofs.range_place.Goals as goal

pub returns : goal.returns
unfolding range_size
returns c =
    let m = mul-le-mul_right c.args.j c.by_version.ensures.upper_bound in
    record { value = rw c.by_version.ensures.value; upper_bound = omega (arith, m, c.requires.0, c.requires.1) }
