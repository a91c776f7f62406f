use mathlib.Core.Path.{sym, ◌∙◌}
use native.Mathlib.Omega.{arith}
use Rattle.part_table_layout.proofs.Lookups.{below_96}
use Rattle.part_table_layout.proofs.Threes.{listed_nowhere, listed_there}
use Rattle.part_table.proofs.listed.Goals as goal

pub overflow_mul-k : goal.overflow_mul-k
overflow_mul-k c =
    omega (arith, below_96 _ _ _ _ _ (sym c.find_occurrence.ensures ∙ c.in-Some.is))

pub overflow_add-k : goal.overflow_add-k
overflow_add-k c =
    omega (arith, below_96 _ _ _ _ _ (sym c.find_occurrence.ensures ∙ c.in-Some.is))

pub returns-in-None : goal.returns-in-None
returns-in-None c =
    let pre = c.requires in
    c.refused.ensures ∙ listed_nowhere _ _ _ _ _ pre.0 pre.1 c.find_occurrence.ensures c.in-None.is

pub returns-in-Some : goal.returns-in-Some
returns-in-Some c =
    let pre = c.requires in
    listed_there _ _ _ _ _ pre.0 pre.1 c.find_occurrence.ensures c.in-Some.is c.u32_at-at.ensures c.u32_at.ensures
