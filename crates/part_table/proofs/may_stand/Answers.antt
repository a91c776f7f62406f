use Rattle.part_table_layout.proofs.Judged.{stood, fresh}
use Rattle.part_table.proofs.may_stand.Goals as goal

pub returns-then-not-stands : goal.returns-then-not-stands
returns-then-not-stands c = let e = c.if-not-stands.true in rw e (fresh _ _ _ c.stands.ensures e)

pub returns-else-not-stands : goal.returns-else-not-stands
returns-else-not-stands c = stood _ _ _ c.stands.ensures c.if-not-stands.false c.may_repeat.ensures
