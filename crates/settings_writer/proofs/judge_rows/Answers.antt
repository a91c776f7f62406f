use native.Mathlib.Omega.{arith}
use Rattle.wire.proofs.Verdicts.{refuses, accepts, accepted_by, value_by}
use Rattle.settings_reader.proofs.Steps.{stopped}
use Rattle.settings_writer.proofs.Checks.{judging_begin, judging_stop, judging_more, judging_full, judging_done, judging_end}
use Rattle.settings_writer.proofs.judge_rows.Goals as goal

pub loop-version-init : goal.loop-version-init
loop-version-init c = judging_begin _ _ c.requires.1

pub row_given-requires : goal.row_given-requires
row_given-requires c = omega (arith, c.loop-version.invariant.low, c.requires.0, c.loop-version-test.true)

pub returns-in_err-at : goal.returns-in_err-at
returns-in_err-at c = stopped _ _ c.row_given.ensures _ _ c.from_residual.ensures c.in_err-at.was (judging_stop c.loop-version.invariant c.loop-version-test.true _)

pub loop-version-preserved : goal.loop-version-preserved
loop-version-preserved c =
    judging_more c.loop-version.invariant c.loop-version-test.true (accepted_by _ _ c.row_given.ensures c.in_ok-at.was) (value_by _ _ c.row_given.ensures c.in_ok-at.was)

pub returns-then-room-at : goal.returns-then-room-at
returns-then-room-at c = refuses _ _ c.refused.ensures (judging_full c.loop-version.invariant c.loop-version-test.false c.args.room c.if-room-at.true)

pub returns : goal.returns
returns c =
    rw (judging_end c.loop-version.invariant c.loop-version-test.false c.args.room) (accepts _ _ (judging_done c.loop-version.invariant c.loop-version-test.false c.args.room c.if-room-at.false))
