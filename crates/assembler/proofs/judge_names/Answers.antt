use mathlib.Core.Path.{refl, sym}
use Rattle.assembler_layout.proofs.Checks.{name_stood, name_fresh, name_seen}
use Rattle.wire.proofs.Verdicts.{refuses, accepts, each_none, each_done}
use Rattle.assembler.proofs.judge_names.Goals as goal

pub loop-i-init : goal.loop-i-init
loop-i-init c = (refl, each_none _)

pub returns-then-not-may_stand : goal.returns-then-not-may_stand
returns-then-not-may_stand c =
    let l = c.loop-i in
    let stop = name_stood _ c.requires c.loop-i-test.true c.u32_at-name.ensures l.invariant.0 c.may_stand.ensures l.invariant.1 c.if-not-may_stand.true in
    refuses _ _ c.refused.ensures stop

pub loop-i-preserved : goal.loop-i-preserved
loop-i-preserved c =
    let l = c.loop-i in
    let few = c.requires in
    let less = c.loop-i-test.true in (
      name_seen _ few less c.u32_at-name.ensures l.invariant.0 c.may_stand.ensures l.invariant.1,
      name_fresh _ few less c.u32_at-name.ensures l.invariant.0 c.may_stand.ensures l.invariant.1 c.if-not-may_stand.false,
    )

pub returns : goal.returns
returns c = accepts _ _ (sym (each_done _ c.loop-i.auto.i-end c.loop-i-test.false c.loop-i.invariant.1))
