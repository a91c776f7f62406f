use Rattle.std.specs.Prelude.{Some}
use mathlib.Core.Path.{◌≡◌}
use lib.Dec.{eqb}
use borrow.Author.Tests.{eq-eqb, ne_eqb}
use Rattle.wire.specs.Choice.{choose}
use Rattle.wire.proofs.Verdicts.{refuses, accepts, accepted_by, value_by}
use Rattle.settings_layout.specs.Shown.{row_alone_of}
use Rattle.settings_reader.proofs.Steps.{stopped}
use Rattle.settings_reader.proofs.Walks.{walk_begin, walk_stop, walk_more, walk_over, walk_done, walk_setting, walk_row}
use Rattle.settings_reader.proofs.walk.Goals.{then-j-i, else-j-i}
use Rattle.settings_reader.proofs.walk.Goals as goal

pub loop-j-init : goal.loop-j-init
loop-j-init c = walk_begin _ _ _ _ _ _ c.requires

pub loop-j-preserved : goal.loop-j-preserved
unfolding row_alone_of
loop-j-preserved c =
    let row_is : c.if-j-i.row ≡ choose (eqb c.loop-j.j c.args.i) (Some c.in_ok-alone.alone.row) c.loop-j.row = elim c.if-j-i.branch [
      | then-j-i w ↦ rw (w.row-is, eq-eqb _ _ w.if-j-i.true)
      | else-j-i w ↦ rw (w.row-is, ne_eqb _ _ w.if-j-i.false)
    ] in
    walk_more c.loop-j.invariant c.loop-j-test.true (accepted_by _ _ c.row_alone.ensures c.in_ok-alone.was) (value_by _ _ c.row_alone.ensures c.in_ok-alone.was) c.taken-setting.ensures row_is

pub returns-in_err-alone : goal.returns-in_err-alone
unfolding row_alone_of
returns-in_err-alone c =
    stopped _ _ c.row_alone.ensures _ _ c.from_residual.ensures c.in_err-alone.was (walk_stop c.loop-j.invariant c.loop-j-test.true)

pub returns-then-at-d : goal.returns-then-at-d
returns-then-at-d c = refuses _ _ c.refused.ensures (walk_over c.loop-j.invariant c.loop-j-test.false c.if-at-d.true)

pub returns : goal.returns
returns c =
    rw (walk_setting c.loop-j.invariant c.loop-j-test.false, walk_row c.loop-j.invariant c.loop-j-test.false)
    (accepts _ _ (walk_done c.loop-j.invariant c.loop-j-test.false c.if-at-d.false))
