use Prim.Native.Nat.{◌+◌, ◌-◌}
use mathlib.Core.Path.{◌≡◌, sym, ◌∙◌}
use native.Mathlib.Omega.{arith}
use Rattle.utf8.proofs.One.{read_ill, read_well, read_plain}
use Rattle.utf8.proofs.Stops.{string_fits, good_unended, zero_past}
use Rattle.utf8.proofs.read_any.Goals as goal

pub overflow_add-to : goal.overflow_add-to
overflow_add-to c = let a = c.args in omega (arith, string_fits a.t.now a.o _ (omega arith) c.len_at-len.ensures)

pub returns-then-t-to : goal.returns-then-t-to
returns-then-t-to c =
    let a = c.args in
    read_ill a.t.now a.o (sym (good_unended a.t.now a.o _ (omega arith) c.len_at-len.ensures c.if-t-to.true))

pub returns-then-plain_from : goal.returns-then-plain_from
returns-then-plain_from c =
    let a = c.args in
    let z : a.o + c.len_at-len.result - a.o ≡ c.len_at-len.result = omega arith in
    read_plain a.t.now a.o _ (omega arith) c.len_at-len.ensures (omega arith) (rw z at (c.plain_from.ensures.0 c.if-plain_from.true))

pub ends_well-requires : goal.ends_well-requires
ends_well-requires c =
    let a = c.args in
    (omega arith, omega arith, zero_past a.t.now a.o _ (omega arith) c.len_at-len.ensures)

pub returns-then-ends_well : goal.returns-then-ends_well
returns-then-ends_well c =
    let a = c.args in
    let z : a.o + c.len_at-len.result - a.o ≡ c.len_at-len.result = omega arith in
    read_well a.t.now a.o _ (omega arith) c.len_at-len.ensures _ (sym c.ends_well.ensures ∙ c.if-ends_well.true) (rw z at c.code_points.ensures.2)

pub returns : goal.returns
returns c = read_ill _ _ (sym c.ends_well.ensures ∙ c.if-ends_well.false)
