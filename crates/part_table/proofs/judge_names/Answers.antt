use mathlib.Core.Path.{sym}
use native.Mathlib.Numerals.{add-one}
use Rattle.wire.proofs.Verdicts.{refuses, accepts, each_none, each_stop, each_next, each_done}
use Rattle.part_table_layout.proofs.Judged.{name_refused, name_accepted}
use Rattle.part_table.proofs.judge_names.Goals as goal

pub loop-i-init : goal.loop-i-init
loop-i-init c = each_none _

pub returns-then-not-may_stand : goal.returns-then-not-may_stand
returns-then-not-may_stand c =
    let less = c.loop-i-test.true in
    let stop = name_refused _ _ less c.may_stand.ensures c.if-not-may_stand.true in
    refuses _ _ c.refused.ensures (sym (each_stop _ _ _ _ _ less c.loop-i.invariant stop))

pub loop-i-preserved : goal.loop-i-preserved
loop-i-preserved c =
    rw add-one (each_next _ _ c.loop-i.invariant (name_accepted _ _ c.loop-i-test.true c.may_stand.ensures c.if-not-may_stand.false))

pub returns : goal.returns
returns c = accepts _ _ (sym (each_done _ c.loop-i.auto.i-end c.loop-i-test.false c.loop-i.invariant))
