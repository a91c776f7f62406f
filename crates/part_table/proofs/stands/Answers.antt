use Rattle.part_table_layout.proofs.Judged.{none_seen, hit, miss, all_seen}
use Rattle.part_table.proofs.stands.Goals as goal
use Rattle.part_table.proofs.stands.Goals.{then-name-x, else-name-x}

pub loop-name-init : goal.loop-name-init
loop-name-init c = none_seen _ _

pub loop-name-preserved : goal.loop-name-preserved
loop-name-preserved c =
    elim c.if-name-x.branch [ then-name-x w ↦ hit _ _ _ w.hit-is w.if-name-x.true | else-name-x w ↦ miss _ _ _ w.hit-is c.loop-name.invariant w.if-name-x.false ]

pub returns : goal.returns
returns c = all_seen _ _ _ c.loop-name.auto.name-index-end c.loop-name-test.false c.loop-name.invariant
