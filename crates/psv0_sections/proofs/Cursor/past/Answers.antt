use native.Mathlib.Omega.{arith}
use Rattle.psv0_sections.proofs.Walking.{reached, not_reached}
use Rattle.psv0_sections.proofs.Cursor.past.Goals as goal
use Rattle.psv0_sections.proofs.Cursor.past.Goals.{then-d-self-via-then-d-self, then-d-self-via-else-d-self+then-d-self-2}

pub returns-then-d-self : goal.returns-then-d-self
returns-then-d-self c = not_reached _ _ (elim c.then-d-self.branch [
  | then-d-self-via-then-d-self w ↦ omega (arith, w.if-d-self.true)
  | then-d-self-via-else-d-self+then-d-self-2 w ↦ omega (arith, w.if-d-self.false, w.if-d-self-2.true)
])

pub returns : goal.returns
returns c = reached _ _ (omega (arith, c.if-d-self.false, c.if-d-self-2.false))
