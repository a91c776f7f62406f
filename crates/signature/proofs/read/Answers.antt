use mathlib.Core.Path.{sym, ◌∙◌}
use native.Mathlib.Omega.{arith}
use Rattle.wire.proofs.Verdicts.{refuses, accepts, each_none, each_done}
use Rattle.signature_layout.specs.Signature.{signature_of}
use Rattle.signature_layout.proofs.Signatures.{short_header, past_end, names_decide, cut_name, ill_name, good_name}
use Rattle.signature.proofs.read.Goals as goal

pub returns-then-len-lt8 : goal.returns-then-len-lt8
unfolding signature_of
returns-then-len-lt8 c = refuses _ _ c.refused.ensures (short_header _ c.if-len-lt8.true)

pub returns-then-len-u32_at : goal.returns-then-len-u32_at
unfolding signature_of
returns-then-len-u32_at c =
    refuses _ _ c.refused-then-len-u32_at.ensures
    (past_end _ c.if-len-lt8.false c.u32_at.ensures c.u32_at-count.ensures c.if-len-u32_at.true)

pub loop-i-init : goal.loop-i-init
loop-i-init c = (each_none _, omega arith)

pub returns-then-end-o : goal.returns-then-end-o
unfolding signature_of
returns-then-end-o c =
    let l = c.loop-i in
    let n = c.u32_at-count.ensures in
    refuses _ _ c.refused-then-end-o.ensures
    (cut_name _ _ c.name_offset-o.ensures c.end_of-end.ensures c.ill_name-ill.ensures l.invariant.0 (rw n at c.loop-i-test.true) l.invariant.1 c.if-o-ne0.true
    c.if-end-o.true
    ∙ names_decide _ c.if-len-lt8.false c.u32_at.ensures n c.if-len-u32_at.false)

pub returns-then-i-ill : goal.returns-then-i-ill
unfolding signature_of
returns-then-i-ill c =
    let l = c.loop-i in
    let n = c.u32_at-count.ensures in
    refuses _ _ c.refused-then-i-ill.ensures
    (ill_name _ _ c.name_offset-o.ensures c.end_of-end.ensures c.ill_name-ill.ensures l.invariant.0 (rw n at c.loop-i-test.true) l.invariant.1
    c.else-o-ne0.either c.if-i-ill.true
    ∙ names_decide _ c.if-len-lt8.false c.u32_at.ensures n c.if-len-u32_at.false)

pub loop-i-preserved : goal.loop-i-preserved
loop-i-preserved c =
    let l = c.loop-i in (
      good_name _ _ c.name_offset-o.ensures c.end_of-end.ensures c.ill_name-ill.ensures l.invariant.0 (rw c.u32_at-count.ensures at c.loop-i-test.true)
          l.invariant.1 c.else-o-ne0.either c.if-i-ill.false,
      omega (arith, l.invariant.1, c.if-i-ill.false),
    )

pub returns : goal.returns
unfolding signature_of
returns c =
    let n = c.u32_at-count.ensures in
    let j = names_decide _ c.if-len-lt8.false c.u32_at.ensures n c.if-len-u32_at.false in
    let a = each_done _ c.loop-i.auto.i-end (omega (arith, c.loop-i-test.false)) c.loop-i.invariant.0 in
    rw n (accepts _ _ (sym (rw n at a) ∙ j))
