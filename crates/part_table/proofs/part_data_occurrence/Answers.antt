use native.Mathlib.Omega.{arith}
use Rattle.part_table_layout.proofs.Lookups.{read_no_data, read_inside, read_data}
use Rattle.part_table.proofs.part_data_occurrence.Goals as goal

pub overflow_add-start : goal.overflow_add-start
overflow_add-start c = omega (arith, read_inside _ _ _ c.find_part_occurrence.ensures c.in-Ok.is)

pub overflow_add-result : goal.overflow_add-result
overflow_add-result c = omega (arith, read_inside _ _ _ c.find_part_occurrence.ensures c.in-Ok.is)

pub returns-in-Err : goal.returns-in-Err
returns-in-Err c = read_no_data _ _ _ c.find_part_occurrence.ensures c.in-Err.is

pub returns-in-Ok : goal.returns-in-Ok
returns-in-Ok c = read_data _ _ _ c.find_part_occurrence.ensures c.in-Ok.is

pub slice_bounds-result-end-in-Ok : goal.slice_bounds-result-end-in-Ok
slice_bounds-result-end-in-Ok c = omega (arith, read_inside _ _ _ c.find_part_occurrence.ensures c.in-Ok.is)
