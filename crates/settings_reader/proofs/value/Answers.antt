use Rattle.wire.proofs.Verdicts.{passed_on}
use Rattle.settings_layout.specs.Shown.{setting_answer_of}
use Rattle.settings_reader.specs.Walk.{walked_of}
use Rattle.settings_reader.proofs.Walks.{setting_told}
use Rattle.settings_reader.proofs.value.Goals as goal

pub returns-in_err-walk_file : goal.returns-in_err-walk_file
unfolding walked_of setting_answer_of
returns-in_err-walk_file c = passed_on _ _ c.walk_file.ensures _ c.from_residual.ensures c.in_err-walk_file.was

pub returns : goal.returns
returns c = setting_told c.args.d.now c.args.key c.args.version 0 c.walk_file.ensures c.in_ok-walk_file.was
