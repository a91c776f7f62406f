use native.Mathlib.Omega.{arith}
use Rattle.utf8.specs.Machine.{between}
use Rattle.utf8.proofs.Stops.{by_next, by_state}
use Rattle.utf8.proofs.good_by.Goals as goal

pub run-r-requires : goal.run-r-requires
run-r-requires c =
    let p = c.requires in
    let q = c.past-p.ensures in
    (omega (arith, p.0, q.1), q.3, between)

pub returns-then-r-eq6 : goal.returns-then-r-eq6
returns-then-r-eq6 c =
    let a = c.args in
    let q = c.past-p.ensures in
    by_next a.t.now a.o a.to _ _ c.requires.0 c.requires.1 q.0 q.3 c.run-r.ensures.0 a.next c.requires.2 c.if-r-eq6.true

pub returns : goal.returns
returns c =
    let a = c.args in
    let q = c.past-p.ensures in
    by_state a.t.now a.o a.to _ _ c.requires.0 c.requires.1 q.0 q.3 c.run-r.ensures.0 c.if-r-eq6.false
