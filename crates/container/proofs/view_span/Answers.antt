use mathlib.Core.Path.{refl}
use native.Mathlib.Omega.{arith}
use Rattle.container.proofs.Queries.{within, start_short, no_view, view_shows, view_refused}
use Rattle.psv0_layout.proofs.Spans.{passed_err}
use Rattle.container.proofs.view_span.Goals as goal

pub slice_bounds-view_span-count : goal.slice_bounds-view_span-count
slice_bounds-view_span-count c = omega (arith, within _ _ _ c.find_psv0.ensures c.in_ok-p.was)

pub slice_bounds-view_span-start : goal.slice_bounds-view_span-start
slice_bounds-view_span-start c = omega (arith, within _ _ _ c.find_psv0.ensures c.in_ok-p.was)

pub slice_bounds-view_span-end : goal.slice_bounds-view_span-end
slice_bounds-view_span-end c = omega (arith, within _ _ _ c.find_psv0.ensures c.in_ok-p.was)

pub returns-in_err-p : goal.returns-in_err-p
returns-in_err-p c = no_view _ _ _ c.find_psv0.ensures c.in_err-p.was (passed_err _ c.from_residual.ensures) c.args.view

pub returns-in_err-s : goal.returns-in_err-s
returns-in_err-s c =
    view_refused _ _ _ c.find_psv0.ensures c.in_ok-p.was refl c.args.view c.view_span.ensures c.in_err-s.was (passed_err _ c.from_residual-in_err-s.ensures)

pub moved-requires : goal.moved-requires
moved-requires c = start_short _ _ _ c.find_psv0.ensures c.in_ok-p.was refl c.view_span.ensures c.in_ok-s.was

pub returns : goal.returns
returns c = view_shows _ _ _ c.find_psv0.ensures c.in_ok-p.was refl c.args.view c.view_span.ensures c.in_ok-s.was c.moved.ensures
