use Rattle.std.proofs.Common.{rules}
use Rattle.signature_report_layout.proofs.Placed.{no_record, no_table, no_records, all_there}
use Rattle.signature_report.proofs.difference_in.Goals as goal

pub returns-in_err-info : goal.returns-in_err-info
returns-in_err-info c = no_record _ _ _ _ c.from_residual.ensures c.runtime_info.ensures c.in_err-info.was

pub returns-in_err-t : goal.returns-in_err-t
returns-in_err-t c =
    no_table _ _ _ _ c.runtime_info.ensures c.in_ok-info.was c.section_span.ensures c.from_residual-in_err-t.ensures c.in_err-t.was

pub returns-in_err-e : goal.returns-in_err-e
returns-in_err-e c =
    no_records _ _ _ _ c.runtime_info.ensures c.in_ok-info.was c.section_span.ensures c.in_ok-t.was c.section_span-2.ensures
    c.from_residual-in_err-e.ensures c.in_err-e.was

pub returns : goal.returns
returns c =
    all_there _ _ _ _ c.runtime_info.ensures c.in_ok-info.was c.section_span.ensures c.in_ok-t.was c.section_span-2.ensures c.in_ok-e.was
    c.compare.ensures

pub overflow_add-t : goal.overflow_add-t
overflow_add-t c = let i = (c.section_span.ensures.shown c.in_ok-t.was).inside in search rules

pub slice_bounds-compare-end : goal.slice_bounds-compare-end
slice_bounds-compare-end c = let i = (c.section_span.ensures.shown c.in_ok-t.was).inside in search rules

pub overflow_add-e : goal.overflow_add-e
overflow_add-e c = let i = (c.section_span-2.ensures.shown c.in_ok-e.was).inside in search rules

pub slice_bounds-compare-end-2 : goal.slice_bounds-compare-end-2
slice_bounds-compare-end-2 c = let i = (c.section_span-2.ensures.shown c.in_ok-e.was).inside in search rules
