use Rattle.part_table_layout.specs.Table.{may_repeat}
use Rattle.part_table.proofs.may_repeat.Goals as goal

pub returns : goal.returns
unfolding may_repeat
returns c = rw c.u32_at.ensures
