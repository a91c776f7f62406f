use Rattle.settings_layout.specs.Shown.{row_answer_of}
use Rattle.settings_reader.specs.Walk.{walked_of}
use Rattle.settings_reader.proofs.Steps.{stopped}
use Rattle.settings_reader.proofs.Walks.{row_there, row_none, row_refused}
use Rattle.settings_reader.proofs.row.Goals as goal

pub returns-in_err-row : goal.returns-in_err-row
unfolding walked_of row_answer_of
returns-in_err-row c = stopped _ _ c.walk_file.ensures _ _ c.from_residual.ensures c.in_err-row.was (row_refused c.args.d.now c.args.i)

pub returns-in-Some : goal.returns-in-Some
returns-in-Some c = row_there c.args.d.now 0 0 c.args.i c.walk_file.ensures c.in_ok-row.was c.in-Some.row c.in-Some.is

pub returns-in-None : goal.returns-in-None
returns-in-None c = row_none c.args.d.now 0 0 c.args.i c.walk_file.ensures c.in_ok-row.was c.in-None.is c.refused.ensures
