use native.Mathlib.Omega.{arith}
use mathlib.Core.Path.{◌≡◌}
use Rattle.utf8.proofs.One.{letters_none, letters_more}
use Rattle.utf8.proofs.letters_end.Goals as goal

pub loop-i-init : goal.loop-i-init
loop-i-init c = (omega arith, letters_none c.args.t.now _)

pub returns-then-t-i-eq0 : goal.returns-then-t-i-eq0
returns-then-t-i-eq0 c = (c.loop-i.invariant.0, omega arith, c.loop-i.invariant.1)

pub loop-i-preserved : goal.loop-i-preserved
loop-i-preserved c =
    let t = c.args.t.now in
    (omega (arith, c.loop-i.invariant.0), letters_more t _ c.loop-i.i c.loop-i.invariant.1 c.if-t-i-eq0.false (omega (arith, c.if-t-i-gt127.false)))

pub returns : goal.returns
returns c =
    let e : c.loop-i.i ≡ c.args.to = omega (arith, c.loop-i.auto, c.requires.0) in
    (c.requires.0, omega arith, rw e at c.loop-i.invariant.1)
