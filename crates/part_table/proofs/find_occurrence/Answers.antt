use Rattle.part_table_layout.proofs.Lookups.{capped, look_begin, look_on, look_past, look_here, look_nowhere}
use Rattle.part_table.proofs.find_occurrence.Goals as goal
use Rattle.part_table.proofs.find_occurrence.Goals.{then-names-i+else-left-eq0, else-names-i}

pub loop-i-init : goal.loop-i-init
loop-i-init c = look_begin _ _ _ _ (capped c.min-n.ensures)

pub loop-i-preserved : goal.loop-i-preserved
loop-i-preserved c =
    let l = c.loop-i.invariant in
    let less = c.loop-i-test.true in
    elim c.if-names-i.branch [ then-names-i+else-left-eq0 w ↦ look_past _ _ _ _ l less w.if-names-i.true w.if-left-eq0.false w.left-is | else-names-i w ↦ rw w.left-is (look_on _ _ _ _ l less w.if-names-i.false) ]

pub returns-then-left-eq0 : goal.returns-then-left-eq0
returns-then-left-eq0 c =
    look_here _ _ _ _ c.loop-i.invariant c.loop-i-test.true c.if-names-i.true c.if-left-eq0.true

pub returns : goal.returns
returns c = look_nowhere _ _ _ _ c.loop-i.invariant c.loop-i-test.false
