use native.Mathlib.Omega.{arith}
use borrow.Author.Tests.{eq-eqb, ne_eqb}
use Rattle.root_signature.proofs.by_version.Goals as goal

pub returns-then-version-eq1 : goal.returns-then-version-eq1
returns-then-version-eq1 c = record { value = rw (eq-eqb _ _ c.if-version-eq1.true); upper_bound = omega arith }

pub returns : goal.returns
returns c = record { value = rw (ne_eqb _ _ c.if-version-eq1.false); upper_bound = omega arith }
