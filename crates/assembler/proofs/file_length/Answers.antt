use lib.ListN.{length}
use Rattle.assembler_layout.proofs.Sections.{round_up_most, end_next}
use mathlib.Core.Path.{◌≡◌, refl}
use native.Mathlib.Omega.{arith}
use Rattle.assembler_layout.specs.Assembled.{end_before}
use Rattle.assembler.proofs.file_length.Goals as goal

pub loop-size-init : goal.loop-size-init
unfolding end_before
loop-size-init c = (refl, omega arith)

pub loop-size-preserved : goal.loop-size-preserved
loop-size-preserved c =
    let l = c.loop-size in
    let e = c.round_up.ensures in
    (rw (e, l.invariant.0) (end_next _ l.size-index), omega (arith, c.type_inv.sizes l.size-index, round_up_most l.end))

pub returns : goal.returns
returns c =
    let l = c.loop-size in
    let q : l.size-index ≡ length c.args.sizes.now = omega arith in
    rw q at l.invariant.0
