use Rattle.part_table_layout.proofs.Threes.{all_listed}
use Rattle.part_table.proofs.all_listed.Goals as goal

pub returns-then-y-z : goal.returns-then-y-z
returns-then-y-z c =
    let pre = c.requires in
    rw (all_listed _ _ pre.0 c.listed-first.ensures, all_listed _ _ pre.0 c.listed-second.ensures, ← c.if-y-z.true, pre.0)

pub returns-else-y-z : goal.returns-else-y-z
returns-else-y-z c =
    let pre = c.requires in
    rw (all_listed _ _ pre.0 c.listed-first.ensures, all_listed _ _ pre.0 c.listed-second.ensures, all_listed _ _ pre.0 c.listed-third.ensures, pre.0)
