use native.Mathlib.Omega.{arith}
use borrow.Author.Tests.{lt-ltb, ltb-true}
use Rattle.utf8.proofs.Plain.{most_none, most_more, most_below, most_plain}
use Rattle.utf8.proofs.plain_from.Goals as goal

pub loop-i-init : goal.loop-i-init
loop-i-init c = (omega arith, most_none c.args.t.now c.args.from _, λ q. omega arith)

pub loop-i-preserved : goal.loop-i-preserved
loop-i-preserved c =
    let t = c.args.t.now in
    let g = c.max-most in (
      omega (arith, c.loop-i.invariant.0),
      most_more t c.args.from c.loop-i.i c.loop-i.most g.result c.loop-i.invariant.1 (omega (arith, g.ensures)) (omega (arith, g.ensures)),
      most_below t c.args.from c.loop-i.i c.loop-i.most g.result (omega arith) c.loop-i.invariant.0 c.loop-i.invariant.2 g.ensures,
    )

pub returns : goal.returns
returns c =
    let l = c.loop-i in
    (λ e. most_plain c.args.t.now c.args.from l.i l.most l.invariant.1 (omega arith) (ltb-true l.most 128 e), λ q. lt-ltb l.most 128 (l.invariant.2 q))
