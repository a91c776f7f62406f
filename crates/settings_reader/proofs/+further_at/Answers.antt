use mathlib.Core.Path.{refl}
use native.Mathlib.Omega.{arith}
use Rattle.settings_reader.proofs.Steps.{group_passed, size_short, no_more, further_ended, further_long, further_one, further_more}
use Rattle.settings_reader.proofs.+further_at.Goals as goal

pub returns-then-k-eq0 : goal.returns-then-k-eq0
returns-then-k-eq0 t c = no_more _ _ c.if-k-eq0.true

pub returns-then-d-at : goal.returns-then-d-at
returns-then-d-at t c = further_ended _ _ _ c.if-k-eq0.false c.if-d-at.true

pub returns-then-b-eq0 : goal.returns-then-b-eq0
returns-then-b-eq0 t c = further_long _ _ c.if-d-at.false refl _ c.if-k-eq0.false c.if-b-lt128.true c.if-b-eq0.true

pub returns-then-b-lt128 : goal.returns-then-b-lt128
returns-then-b-lt128 t c = rw c.from.ensures (further_one _ _ c.if-d-at.false refl _ c.if-k-eq0.false c.if-b-lt128.true c.if-b-eq0.false)

pub returns-in_err-further_at : goal.returns-in_err-further_at
returns-in_err-further_at t c =
    further_more _ _ c.if-d-at.false refl _ c.if-k-eq0.false c.if-b-lt128.false c.further_at.ensures (group_passed _ c.from_residual.ensures c.in_err-further_at.was)

pub group-requires : goal.group-requires
group-requires t c = let h = size_short _ _ c.further_at.ensures c.in_ok-further_at.was in omega arith

pub returns : goal.returns
returns t c =
    further_more _ _ c.if-d-at.false refl _ c.if-k-eq0.false c.if-b-lt128.false c.further_at.ensures (rw c.in_ok-further_at.was c.group.ensures)
