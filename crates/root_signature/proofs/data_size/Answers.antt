use mathlib.Core.Path.{◌∙◌}
use native.Mathlib.Omega.{arith}
use borrow.Author.Tests.{eq-eqb, ne_eqb}
use Rattle.root_signature_layout.specs.Root.{data_size, descriptor_size}
use Rattle.root_signature.proofs.data_size.Goals as goal

pub returns-then-kind-eq0 : goal.returns-then-kind-eq0
unfolding data_size
returns-then-kind-eq0 c = record { value = rw (eq-eqb _ _ c.if-kind-eq0.true); upper_bound = omega arith }

pub returns-then-kind-eq1 : goal.returns-then-kind-eq1
unfolding data_size
returns-then-kind-eq1 c = record { value = rw (ne_eqb _ _ c.if-kind-eq0.false, eq-eqb _ _ c.if-kind-eq1.true); upper_bound = omega arith }

pub returns : goal.returns
unfolding data_size descriptor_size
returns c = record { value = c.by_version.ensures.value ∙ rw (ne_eqb _ _ c.if-kind-eq0.false, ne_eqb _ _ c.if-kind-eq1.false); upper_bound = c.by_version.ensures.upper_bound }
