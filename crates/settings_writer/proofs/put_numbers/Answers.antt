use Rattle.settings_layout.specs.Groups.{in_groups}
use native.Mathlib.Omega.{arith}
use Rattle.settings_writer.proofs.Puts.{putting_begin, putting_fits, putting_more, putting_done}
use Rattle.settings_writer.proofs.put_numbers.Goals as goal

pub loop-n-init : goal.loop-n-init
loop-n-init c = putting_begin c.args.out.now c.args.from c.args.numbers.now c.requires

pub put_groups-at-requires : goal.put_groups-at-requires
unfolding in_groups
put_groups-at-requires c = (putting_fits c.args.out.now c.args.from c.args.numbers.now c.loop-n.out c.loop-n.at c.loop-n.n-index c.loop-n.invariant c.loop-n-test.true, omega (arith, c.type_inv.numbers c.loop-n.n-index))

pub loop-n-preserved : goal.loop-n-preserved
unfolding in_groups
loop-n-preserved c = putting_more c.args.out.now c.args.from c.args.numbers.now c.loop-n.out c.loop-n.at c.loop-n.n-index c.loop-n.invariant c.loop-n-test.true c.put_groups-at.ensures.0 c.put_groups-at.ensures.1

pub shape_of-out : goal.shape_of-out
shape_of-out c = c.loop-n.invariant.same

pub returns : goal.returns
returns c = putting_done c.args.out.now c.args.from c.args.numbers.now c.loop-n.out c.loop-n.at c.loop-n.n-index c.loop-n.invariant c.loop-n-test.false
