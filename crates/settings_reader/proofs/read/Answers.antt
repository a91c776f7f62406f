use Rattle.wire.proofs.Verdicts.{passed_on}
use Rattle.settings_layout.specs.Shown.{settings_of}
use Rattle.settings_reader.specs.Walk.{walked_of}
use Rattle.settings_reader.proofs.Walks.{read_told}
use Rattle.settings_reader.proofs.read.Goals as goal

pub returns-in_err-walk_file : goal.returns-in_err-walk_file
unfolding walked_of settings_of
returns-in_err-walk_file c = passed_on _ _ c.walk_file.ensures _ c.from_residual.ensures c.in_err-walk_file.was

pub returns : goal.returns
returns c = read_told c.args.d.now 0 0 0 c.walk_file.ensures c.in_ok-walk_file.was
