use native.Mathlib.Omega.{arith}
use Rattle.container_layout.proofs.Parts.{part_short, part_fits, no_data, part_data}
use Rattle.container.proofs.part_bytes_occurrence.Goals as goal

pub overflow_add-start : goal.overflow_add-start
overflow_add-start c = omega (arith, part_short _ _ _ _ c.part_occurrence.ensures c.in-Ok.is)

pub overflow_add-result : goal.overflow_add-result
overflow_add-result c = omega (arith, part_short _ _ _ _ c.part_occurrence.ensures c.in-Ok.is)

pub slice_bounds-result-end : goal.slice_bounds-result-end
slice_bounds-result-end c = omega (arith, part_fits _ _ _ _ c.part_occurrence.ensures c.in-Ok.is)

pub returns-in-Err : goal.returns-in-Err
returns-in-Err c = no_data _ _ _ _ c.part_occurrence.ensures c.in-Err.is

pub returns-in-Ok : goal.returns-in-Ok
returns-in-Ok c = part_data _ _ _ _ c.part_occurrence.ensures c.in-Ok.is
