use mathlib.Core.Path.{sym, ◌∙◌}
use native.Mathlib.Omega.{arith}
use Rattle.psv0_sections.proofs.Walking.{field_past, field_short}
use Rattle.psv0_sections.proofs.Cursor.field.Goals as goal

pub returns-in_err-next : goal.returns-in_err-next
returns-in_err-next c = field_short _ _ _ c.from_residual.ensures (sym c.past.ensures ∙ c.in_err-next.was)

pub returns : goal.returns
returns c = field_past _ _ _ c.u32_at.ensures (omega arith) (sym c.past.ensures ∙ c.in_ok-next.was)
