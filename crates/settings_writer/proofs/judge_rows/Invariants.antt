use Rattle.settings_writer.proofs.Checks.{Judging}
use Rattle.settings_writer.proofs.judge_rows.Given as goal

abbrev pub invariant-loop-version : goal.invariant-loop-version
invariant-loop-version l = Judging l.rows l.from l.at l.last l.version-index
