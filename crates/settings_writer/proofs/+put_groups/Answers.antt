use mathlib.Core.Path.{ap}
use native.Mathlib.Omega.{arith}
use lib.ListN.{length, length-set}
use Rattle.settings_writer.proofs.Puts.{further, put_last, put_further}
use Rattle.settings_writer.proofs.+put_groups.Goals as goal

pub bounds-out-at : goal.bounds-out-at
bounds-out-at t c = let e = (put_last c.args.out.now c.args.at c.args.k c.args.n c.if-n-lt128.true).0 in omega (arith, c.requires.0)

pub returns-then-n-lt128 : goal.returns-then-n-lt128
returns-then-n-lt128 t c = put_last c.args.out.now c.args.at c.args.k c.args.n c.if-n-lt128.true

pub bounds-out-at-2 : goal.bounds-out-at-2
bounds-out-at-2 t c =
    let f = further c.args.k c.args.n c.requires.1 c.if-n-lt128.false in
    let l = ap length f.form in
    omega (arith, c.requires.0)

pub put_groups-requires : goal.put_groups-requires
put_groups-requires t c =
    let f = further c.args.k c.args.n c.requires.1 c.if-n-lt128.false in
    let l = ap length f.form in
    (omega (arith, f.more), (simp length-set (omega (arith, c.requires.0)), f.fits))

pub returns : goal.returns
returns t c =
    let f = further c.args.k c.args.n c.requires.1 c.if-n-lt128.false in
    put_further c.args.out.now c.args.at c.args.k c.args.n f c.put_groups.ensures.0 c.put_groups.ensures.1
