use native.Mathlib.Omega.{arith}
use Rattle.signature_layout.proofs.Steps.{unset_at, set_inside, set_at}
use Rattle.signature.proofs.name_at.Goals as goal

pub returns-then-o-eq0 : goal.returns-then-o-eq0
returns-then-o-eq0 c = unset_at _ c.if-o-eq0.true

pub overflow_add-o : goal.overflow_add-o
overflow_add-o c = omega (arith, set_inside _ c.if-o-eq0.false c.requires c.len_at-len.ensures)

pub slice_bounds-code_points-end : goal.slice_bounds-code_points-end
slice_bounds-code_points-end c = set_inside _ c.if-o-eq0.false c.requires c.len_at-len.ensures

pub returns : goal.returns
returns c = set_at _ c.if-o-eq0.false c.requires c.len_at-len.ensures c.code_points.ensures.2
