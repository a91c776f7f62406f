use mathlib.Core.Path.{◌∙◌}
use Rattle.part_table_layout.proofs.Lookups.{same_refusal, later_first, later_refused, later_found}
use Rattle.part_table.proofs.later_part.Goals as goal

pub returns-then-occurrence-eq0 : goal.returns-then-occurrence-eq0
returns-then-occurrence-eq0 c = later_first _ _ _ _ c.if-occurrence-eq0.true

pub returns-in_err-first : goal.returns-in_err-first
returns-in_err-first c =
    same_refusal _ c.from_residual.ensures ∙ later_refused _ _ _ _ c.if-occurrence-eq0.false c.in_err-first.was

pub returns : goal.returns
returns c =
    c.search_again.ensures ∙ later_found _ _ _ _ c.if-occurrence-eq0.false c.in_ok-first.was
