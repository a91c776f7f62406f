use Prim.Native.Nat.{◌+◌, ◌-◌, ◌*◌}
use mathlib.Core.Path.{◌≡◌}
use native.Mathlib.Omega.{arith}
use Rattle.signature_layout.specs.Signature.{element_at}
use Rattle.signature.proofs.element_at.Goals as goal

pub returns : goal.returns
unfolding element_at
returns c =
    let at = c.u32_at.result + 32 * c.args.i in
    let w : at + 32 - at ≡ 32 = omega arith in
    rw (w, c.u32_at.ensures)
