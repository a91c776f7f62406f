use native.Mathlib.Omega.{arith}
use Rattle.wire.proofs.Verdicts.{refuses, accepts}
use Rattle.psv0_layout.proofs.Spans.{passed_err}
use Rattle.container.specs.Opened.{psv_part_of}
use Rattle.container.proofs.Openings.{no_edition, no_table, no_program, empty_program, no_validation, short, passes, found_psv0}
use Rattle.container.proofs.find_both.Goals as goal

pub returns-then-edition-gt3 : goal.returns-then-edition-gt3
unfolding psv_part_of
returns-then-edition-gt3 c = refuses _ _ c.refused.ensures (no_edition _ _ c.if-edition-gt3.true)

pub returns-in_err-t : goal.returns-in_err-t
unfolding psv_part_of
returns-in_err-t c =
    refuses _ _ (passed_err _ c.from_residual.ensures) (no_table _ _ _ c.if-edition-gt3.false c.parts_for.ensures c.in_err-t.was)

pub returns-in_default : goal.returns-in_default
unfolding psv_part_of
returns-in_default c =
    refuses _ _ c.refused-in_default.ensures (no_program _ _ _ c.if-edition-gt3.false c.parts_for.ensures c.in_ok-t.was c.in_default.is)

pub returns-then-program-eq0 : goal.returns-then-program-eq0
unfolding psv_part_of
returns-then-program-eq0 c =
    refuses _ _ c.refused-then-program-eq0.ensures (empty_program _ _ _ c.if-edition-gt3.false c.parts_for.ensures c.in_ok-t.was c.in-Ok.is c.if-program-eq0.true)

pub returns-in_default-second : goal.returns-in_default-second
unfolding psv_part_of
returns-in_default-second c =
    refuses _ _ c.refused-in_default-second.ensures (no_validation _ _ _ c.if-edition-gt3.false c.parts_for.ensures c.in_ok-t.was c.in-Ok.is c.if-program-eq0.false c.in_default-second.is)

pub overflow_add-start : goal.overflow_add-start
overflow_add-start c =
    omega (arith, short _ _ _ c.if-edition-gt3.false c.parts_for.ensures c.in_ok-t.was c.in-Ok.is c.if-program-eq0.false c.in-Ok-second.is)

pub overflow_add-result : goal.overflow_add-result
overflow_add-result c =
    omega (arith, short _ _ _ c.if-edition-gt3.false c.parts_for.ensures c.in_ok-t.was c.in-Ok.is c.if-program-eq0.false c.in-Ok-second.is)

pub returns : goal.returns
unfolding psv_part_of
returns c =
    let shown = found_psv0 _ _ _ c.if-edition-gt3.false c.parts_for.ensures c.in_ok-t.was c.in-Ok.is c.if-program-eq0.false c.in-Ok-second.is in
    rw shown (accepts _ _ (passes _ _ _ c.if-edition-gt3.false c.parts_for.ensures c.in_ok-t.was c.in-Ok.is c.if-program-eq0.false c.in-Ok-second.is))
