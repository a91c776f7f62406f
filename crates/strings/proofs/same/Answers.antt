use mathlib.Core.Path.{refl, sym, ◌∙◌}
use native.Mathlib.Omega.{arith}
use Rattle.psv0_layout.proofs.References.{string_past}
use Rattle.strings.proofs.Compared.{byte_inside, same_goes, same_stops, same_not, same_end}
use Rattle.strings.proofs.same.Goals as goal

pub loop-i-init : goal.loop-i-init
loop-i-init c = refl

pub returns-then-x-byte_at : goal.returns-then-x-byte_at
returns-then-x-byte_at c =
    let f = c.args in
    sym (same_not f.a.now f.c.now c.loop-i.i c.loop-i.j (λ e. c.if-x-byte_at.true (e ∙ sym c.byte_at.ensures))) ∙ c.loop-i.invariant

pub returns-then-x-eq0 : goal.returns-then-x-eq0
returns-then-x-eq0 c =
    let f = c.args in
    sym (same_stops f.a.now f.c.now c.loop-i.i c.loop-i.j c.if-x-eq0.true (sym c.byte_at.ensures ∙ sym c.if-x-byte_at.false ∙ c.if-x-eq0.true)) ∙ c.loop-i.invariant

-- a byte that both have and that is not zero stands inside both
pub overflow_add-j : goal.overflow_add-j
overflow_add-j c =
    let f = c.args in
    omega (arith, byte_inside f.c.now c.loop-i.j (λ z. c.if-x-eq0.false (c.if-x-byte_at.false ∙ c.byte_at.ensures ∙ z)))

pub loop-i-preserved : goal.loop-i-preserved
loop-i-preserved c =
    let f = c.args in
    sym (same_goes f.a.now f.c.now c.loop-i.i c.loop-i.j c.if-x-eq0.false (c.if-x-byte_at.false ∙ c.byte_at.ensures)) ∙ c.loop-i.invariant

pub returns : goal.returns
returns c =
    let f = c.args in
    rw c.byte_at-2.ensures
    (same_end f.a.now f.c.now c.loop-i.i c.loop-i.j (string_past f.a.now c.loop-i.i (omega (arith, c.loop-i-test.false))) ∙ c.loop-i.invariant)
