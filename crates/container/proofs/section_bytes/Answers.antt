use native.Mathlib.Omega.{arith}
use Rattle.psv0_layout.proofs.Spans.{span_slice, span_inside, no_slice}
use Rattle.container.proofs.section_bytes.Goals as goal

pub overflow_add-result : goal.overflow_add-result
overflow_add-result c = omega (arith, span_inside _ c.section_span.ensures c.in-Ok.is)

pub slice_bounds-result-end : goal.slice_bounds-result-end
slice_bounds-result-end c = omega (arith, span_inside _ c.section_span.ensures c.in-Ok.is)

pub returns-in-Ok : goal.returns-in-Ok
returns-in-Ok c = span_slice _ c.section_span.ensures c.in-Ok.is

pub returns-in-Err : goal.returns-in-Err
returns-in-Err c = no_slice _ c.section_span.ensures c.in-Err.is
