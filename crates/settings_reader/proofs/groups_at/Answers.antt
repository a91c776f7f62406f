use mathlib.Core.Path.{refl}
use native.Mathlib.Omega.{arith}
use Rattle.settings_reader.proofs.Steps.{group_passed, size_short, number_ended, number_one, number_more}
use Rattle.settings_reader.proofs.groups_at.Goals as goal

pub returns-then-d-at : goal.returns-then-d-at
returns-then-d-at c = number_ended _ _ c.if-d-at.true

pub returns-then-b-lt128 : goal.returns-then-b-lt128
returns-then-b-lt128 c = rw c.from.ensures (number_one _ _ c.if-d-at.false refl c.if-b-lt128.true)

pub returns-in_err-further_at : goal.returns-in_err-further_at
returns-in_err-further_at c =
    number_more _ _ c.if-d-at.false refl c.if-b-lt128.false c.further_at.ensures (group_passed _ c.from_residual.ensures c.in_err-further_at.was)

pub group-requires : goal.group-requires
group-requires c = let h = size_short _ _ c.further_at.ensures c.in_ok-further_at.was in omega arith

pub returns : goal.returns
returns c =
    number_more _ _ c.if-d-at.false refl c.if-b-lt128.false c.further_at.ensures (rw c.in_ok-further_at.was c.group.ensures)
