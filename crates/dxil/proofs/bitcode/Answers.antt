use native.Mathlib.Omega.{arith}
use Rattle.dxil_layout.proofs.Programs.{no_bitcode, stretch_inside, bitcode_is}
use Rattle.dxil.proofs.bitcode.Goals as goal

pub overflow_add-result : goal.overflow_add-result
overflow_add-result c = omega (arith, stretch_inside _ c.read.ensures c.in-Ok.is)

pub slice_bounds-result-end : goal.slice_bounds-result-end
slice_bounds-result-end c = omega (arith, stretch_inside _ c.read.ensures c.in-Ok.is)

pub returns-in-Ok : goal.returns-in-Ok
returns-in-Ok c = bitcode_is _ c.read.ensures c.in-Ok.is

pub returns-in-Err : goal.returns-in-Err
returns-in-Err c = no_bitcode _ c.read.ensures c.in-Err.is
