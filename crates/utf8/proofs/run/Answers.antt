use mathlib.Core.Path.{◌≡◌}
use native.Mathlib.Omega.{arith}
use Rattle.utf8.proofs.Rows.{run_begin, run_more, state_small}
use Rattle.utf8.proofs.run.Goals as goal

pub loop-p-init : goal.loop-p-init
loop-p-init c = (omega arith, run_begin c.args.t.now c.args.from c.args.state, c.requires.2)

pub overflow_shr-s : goal.overflow_shr-s
overflow_shr-s c = state_small c.loop-p.invariant.2

pub loop-p-preserved : goal.loop-p-preserved
loop-p-preserved c =
    let l = c.loop-p in
    let a = c.args in
    let b = c.type_inv.t l.p in
    let r = run_more a.t.now a.from l.p a.state l.s l.invariant.0 (omega arith) l.invariant.1 l.invariant.2 in
    (omega (arith, l.invariant.0), r.0, r.1)

pub returns : goal.returns
returns c =
    let l = c.loop-p in
    let e : l.p ≡ c.args.to = omega (arith, l.auto, c.requires.0) in
    (rw e at l.invariant.1, l.invariant.2)
