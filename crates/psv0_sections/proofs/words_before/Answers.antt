use native.Mathlib.Omega.{arith}
use Rattle.psv0_layout.proofs.Masks.{none_before, one_more, total_fits, all_before}
use Rattle.psv0_sections.proofs.words_before.Goals as goal

pub loop-i-init : goal.loop-i-init
loop-i-init c = none_before c.args.r.now

pub overflow_add-total : goal.overflow_add-total
overflow_add-total c =
    let l = c.loop-i in
    record { fits = total_fits _ (record { below = λ k. (c.type_inv.r k).fits }) _ _ _ l.invariant c.mask_words-total.ensures (omega (arith, c.min-i-end.ensures)) }

pub loop-i-preserved : goal.loop-i-preserved
loop-i-preserved c = one_more _ (record { below = λ k. (c.type_inv.r k).fits }) _ _ _ c.loop-i.invariant c.mask_words-total.ensures

pub returns : goal.returns
returns c =
    let l = c.loop-i in
    all_before c.args.r.now c.args.m l.i l.total (omega (arith, c.min-i-end.ensures)) l.invariant
