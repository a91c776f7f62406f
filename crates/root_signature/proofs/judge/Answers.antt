use mathlib.Core.Path.{sym, ◌∙◌}
use native.Mathlib.Omega.{arith}
use Rattle.wire.proofs.Verdicts.{accepts, accepted_by, accepted_then, each_none, each_done, passed_on}
use Rattle.root_signature_layout.specs.Root.{root_judged}
use Rattle.root_signature_layout.proofs.Steps.{stops, goes_on, item_stops, item_passes}
use Rattle.root_signature.proofs.judge.Goals as goal

pub returns-in_err-judge_header : goal.returns-in_err-judge_header
unfolding root_judged
returns-in_err-judge_header c = stops _ _ _ c.judge_header.ensures _ c.from_residual.ensures c.in_err-judge_header.was

pub loop-i-init : goal.loop-i-init
loop-i-init c = each_none _

pub judge_item-requires : goal.judge_item-requires
judge_item-requires c = omega (arith, c.loop-i-test.true)

pub returns-in_err-judge_item : goal.returns-in_err-judge_item
unfolding root_judged
returns-in_err-judge_item c =
    let e =
    item_stops _ _ c.loop-i.invariant c.judge_item.ensures (omega (arith, c.loop-i-test.true, c.u32_at.ensures, c.u32_at-2.ensures)) c.in_err-judge_item.was in
    rw e at (passed_on _ _ c.judge_item.ensures tt c.from_residual-in_err-judge_item.ensures c.in_err-judge_item.was)
    ∙ goes_on _ _ _ c.judge_header.ensures tt c.in_ok-judge_header.was

pub loop-i-preserved : goal.loop-i-preserved
loop-i-preserved c = item_passes _ _ c.loop-i.invariant c.judge_item.ensures c.in_ok-judge_item.was

pub returns : goal.returns
unfolding root_judged
returns c =
    let l = c.loop-i in
    let e = rw (c.u32_at.ensures, c.u32_at-2.ensures) at (each_done _ l.auto.i-end (omega (arith, c.loop-i-test.false)) l.invariant) in
    accepts _ _ (sym (accepted_then _ _ (accepted_by _ _ c.judge_header.ensures c.in_ok-judge_header.was) e))
