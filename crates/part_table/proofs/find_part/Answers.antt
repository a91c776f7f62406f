use mathlib.Core.Path.{◌∙◌}
use Rattle.part_table_layout.proofs.Lookups.{same_refusal}
use Rattle.part_table_layout.proofs.Threes.{first_refused, three_first}
use Rattle.part_table.proofs.find_part.Goals as goal

pub returns-in_err-three_parts : goal.returns-in_err-three_parts
returns-in_err-three_parts c =
    same_refusal _ c.from_residual.ensures ∙ first_refused _ _ _ _ c.three_parts.ensures c.in_err-three_parts.was ∙ rw c.u32_at-x.ensures

pub returns : goal.returns
returns c = three_first _ _ _ _ c.three_parts.ensures c.in_ok-three_parts.was ∙ rw c.u32_at-x.ensures
