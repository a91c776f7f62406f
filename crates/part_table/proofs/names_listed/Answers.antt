use mathlib.Core.Path.{refl}
use Rattle.part_table_layout.proofs.Filled.{filled_all}
use Rattle.part_table_layout.proofs.Judged.{offset_is, name_is}
use Rattle.part_table_layout.proofs.Threes.{name_more}
use Rattle.part_table.proofs.names_listed.Goals as goal

pub loop-k-init : goal.loop-k-init
loop-k-init c = refl

pub loop-k-preserved : goal.loop-k-preserved
loop-k-preserved c =
    name_more _ _ c.loop-k.invariant (name_is _ _ (offset_is _ _ c.u32_at-at.ensures) c.u32_at.ensures)

pub returns : goal.returns
returns c = filled_all _ c.loop-k.auto.k-end c.loop-k-test.false c.loop-k.invariant
