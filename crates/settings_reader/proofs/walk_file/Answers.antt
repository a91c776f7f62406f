use native.Mathlib.Omega.{arith}
use Rattle.wire.proofs.Verdicts.{refuses, accepted_by, value_by}
use Rattle.settings_reader.specs.Walk.{walked_of}
use Rattle.settings_reader.proofs.Steps.{stopped, number_ends}
use Rattle.settings_reader.proofs.Walks.{no_count, many_rows, few_rows, all_walked}
use Rattle.settings_reader.proofs.walk_file.Goals as goal

pub returns-in_err-count : goal.returns-in_err-count
unfolding walked_of
returns-in_err-count c = stopped _ _ c.number_at.ensures _ _ c.from_residual.ensures c.in_err-count.was (no_count c.args.d.now)

pub returns-then-count-gt512 : goal.returns-then-count-gt512
unfolding walked_of
returns-then-count-gt512 c =
    refuses _ _ c.refused.ensures (many_rows c.args.d.now (accepted_by _ _ c.number_at.ensures c.in_ok-count.was) (value_by _ _ c.number_at.ensures c.in_ok-count.was) c.if-count-gt512.true)

pub walk-requires : goal.walk-requires
walk-requires c = let h = number_ends c.args.d.now 0 (accepted_by _ _ c.number_at.ensures c.in_ok-count.was) (value_by _ _ c.number_at.ensures c.in_ok-count.was) in omega arith

pub returns : goal.returns
unfolding walked_of
returns c =
    rw (← few_rows c.args.d.now (accepted_by _ _ c.number_at.ensures c.in_ok-count.was) (value_by _ _ c.number_at.ensures c.in_ok-count.was) c.if-count-gt512.false, ← all_walked c.args.d.now (accepted_by _ _ c.number_at.ensures c.in_ok-count.was) (value_by _ _ c.number_at.ensures c.in_ok-count.was) c.args.key c.args.version c.args.i) c.walk.ensures
