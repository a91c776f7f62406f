use native.Mathlib.Omega.{arith}
use Rattle.container.proofs.Queries.{within, data_is, stops, data_stop, placed_is, psv0_short}
use Rattle.container.specs.Opened.{container_places_of}
use Rattle.places_layout.specs.Placed.{opened_places}
use Rattle.psv0_layout.proofs.Spans.{passed_err}
use Rattle.wire.proofs.Verdicts.{refuses}
use Rattle.container.proofs.open_places.Goals as goal

pub slice_bounds-open_places-count : goal.slice_bounds-open_places-count
slice_bounds-open_places-count c = omega (arith, within _ _ _ c.find_psv0.ensures c.in_ok-p.was)

pub slice_bounds-open_places-start : goal.slice_bounds-open_places-start
slice_bounds-open_places-start c = omega (arith, within _ _ _ c.find_psv0.ensures c.in_ok-p.was)

pub slice_bounds-open_places-end : goal.slice_bounds-open_places-end
slice_bounds-open_places-end c = omega (arith, within _ _ _ c.find_psv0.ensures c.in_ok-p.was)

pub overflow_cast-p : goal.overflow_cast-p
overflow_cast-p c = omega (arith, psv0_short _ _ _ c.find_psv0.ensures c.in_ok-p.was)

pub returns-in_err-p : goal.returns-in_err-p
unfolding container_places_of
returns-in_err-p c = refuses _ _ (passed_err _ c.from_residual.ensures) (stops _ _ _ c.find_psv0.ensures c.in_err-p.was)

pub returns-in_err-o : goal.returns-in_err-o
unfolding container_places_of opened_places
returns-in_err-o c =
    refuses _ _ (passed_err _ c.from_residual-in_err-o.ensures) (data_stop _ _ _ c.find_psv0.ensures c.in_ok-p.was (data_is _ _ _ c.find_psv0.ensures c.in_ok-p.was) _ c.open_places.ensures c.in_err-o.was)

pub returns : goal.returns
returns c =
    rw c.moved.ensures (placed_is _ _ _ c.find_psv0.ensures c.in_ok-p.was (data_is _ _ _ c.find_psv0.ensures c.in_ok-p.was) c.open_places.ensures c.in_ok-o.was)
