use native.Mathlib.Omega.{arith}
use Rattle.container.proofs.Queries.{within, data_is, stops, data_stop, opening_is}
use Rattle.container.specs.Opened.{container_opening_of}
use Rattle.psv0_layout.proofs.Spans.{passed_err}
use Rattle.wire.proofs.Verdicts.{refuses}
use Rattle.container.proofs.open.Goals as goal

pub slice_bounds-open-count : goal.slice_bounds-open-count
slice_bounds-open-count c = omega (arith, within _ _ _ c.find_psv0.ensures c.in_ok-p.was)

pub slice_bounds-open-start : goal.slice_bounds-open-start
slice_bounds-open-start c = omega (arith, within _ _ _ c.find_psv0.ensures c.in_ok-p.was)

pub slice_bounds-open-end : goal.slice_bounds-open-end
slice_bounds-open-end c = omega (arith, within _ _ _ c.find_psv0.ensures c.in_ok-p.was)

pub returns-in_err-p : goal.returns-in_err-p
unfolding container_opening_of
returns-in_err-p c = refuses _ _ (passed_err _ c.from_residual.ensures) (stops _ _ _ c.find_psv0.ensures c.in_err-p.was)

pub returns-in_err-o : goal.returns-in_err-o
unfolding container_opening_of
returns-in_err-o c =
    refuses _ _ (passed_err _ c.from_residual-in_err-o.ensures) (data_stop _ _ _ c.find_psv0.ensures c.in_ok-p.was (data_is _ _ _ c.find_psv0.ensures c.in_ok-p.was) _ c.open.ensures c.in_err-o.was)

pub returns : goal.returns
returns c =
    opening_is _ _ _ c.find_psv0.ensures c.in_ok-p.was (data_is _ _ _ c.find_psv0.ensures c.in_ok-p.was) c.open.ensures c.in_ok-o.was
