use Prim.Native.Nat.{◌<◌}
use lib.Seq.{get_or-take, length-take-le}
use mathlib.Core.Path.{refl}
use native.Mathlib.Numerals.{add-one}
use native.Mathlib.Omega.{arith}
use Rattle.psv0_layout.specs.Field.{sum}
use Rattle.psv0_layout.proofs.Masks.{sum_next}
use Rattle.places.proofs.words_before.Goals as goal

pub loop-n-init : goal.loop-n-init
loop-n-init c = (unfold sum in refl, omega arith)

pub loop-n-preserved : goal.loop-n-preserved
loop-n-preserved c =
    let l = c.loop-n in
    let k : l.n-index < c.args.m = omega (arith, length-take-le c.args.m c.args.words.now (omega arith)) in
    let n = get_or-take c.args.m c.args.words.now l.n-index 0 k in
    (rw (n, add-one l.n-index, sum_next _ l.n-index, l.invariant.0), omega (arith, l.invariant.1))
