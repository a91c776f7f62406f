use mathlib.Core.Path.{sym, ◌∙◌}
use native.Mathlib.Omega.{arith}
use Rattle.part_table_layout.proofs.Lookups.{in_refused, in_absent, in_found, below_96}
use Rattle.part_table.proofs.part_in.Goals as goal

pub offset_bounds-t-k : goal.offset_bounds-t-k
offset_bounds-t-k c = omega (arith, below_96 _ _ _ _ _ (sym c.find_occurrence.ensures ∙ c.in-Some.is))

pub bounds-t-k : goal.bounds-t-k
bounds-t-k c = omega (arith, below_96 _ _ _ _ _ (sym c.find_occurrence.ensures ∙ c.in-Some.is))

pub offset_bounds-t-k-in-Some : goal.offset_bounds-t-k-in-Some
offset_bounds-t-k-in-Some c = omega (arith, below_96 _ _ _ _ _ (sym c.find_occurrence.ensures ∙ c.in-Some.is))

pub bounds-t-k-in-Some : goal.bounds-t-k-in-Some
bounds-t-k-in-Some c = omega (arith, below_96 _ _ _ _ _ (sym c.find_occurrence.ensures ∙ c.in-Some.is))

pub returns-in_err-t : goal.returns-in_err-t
returns-in_err-t c = in_refused _ _ _ c.from_residual.ensures c.in_err-t.was

pub returns-in-None : goal.returns-in-None
returns-in-None c = c.refused.ensures ∙ in_absent _ _ _ c.in_ok-t.was (rw c.u32_at.ensures at c.find_occurrence.ensures) c.in-None.is

pub returns-in-Some : goal.returns-in-Some
returns-in-Some c = in_found _ _ _ c.in_ok-t.was (rw c.u32_at.ensures at c.find_occurrence.ensures) c.in-Some.is
