use mathlib.Core.Path.{refl}
use native.Mathlib.Omega.{arith}
use Rattle.container.proofs.Queries.{within, start_short, no_section, section_shows, section_refused}
use Rattle.psv0_layout.proofs.Spans.{passed_err}
use Rattle.container.proofs.section_span.Goals as goal

pub slice_bounds-section_span-count : goal.slice_bounds-section_span-count
slice_bounds-section_span-count c = omega (arith, within _ _ _ c.find_psv0.ensures c.in_ok-p.was)

pub slice_bounds-section_span-start : goal.slice_bounds-section_span-start
slice_bounds-section_span-start c = omega (arith, within _ _ _ c.find_psv0.ensures c.in_ok-p.was)

pub slice_bounds-section_span-end : goal.slice_bounds-section_span-end
slice_bounds-section_span-end c = omega (arith, within _ _ _ c.find_psv0.ensures c.in_ok-p.was)

pub returns-in_err-p : goal.returns-in_err-p
returns-in_err-p c = no_section _ _ _ c.find_psv0.ensures c.in_err-p.was (passed_err _ c.from_residual.ensures) _

pub returns-in_err-s : goal.returns-in_err-s
returns-in_err-s c =
    section_refused _ _ _ c.find_psv0.ensures c.in_ok-p.was refl _ c.section_span.ensures c.in_err-s.was (passed_err _ c.from_residual-in_err-s.ensures)

pub moved-requires : goal.moved-requires
moved-requires c = start_short _ _ _ c.find_psv0.ensures c.in_ok-p.was refl c.section_span.ensures c.in_ok-s.was

pub returns : goal.returns
returns c = section_shows _ _ _ c.find_psv0.ensures c.in_ok-p.was refl _ c.section_span.ensures c.in_ok-s.was c.moved.ensures
