use Rattle.settings_reader.proofs.Walks.{Walking}
use Rattle.settings_reader.proofs.walk.Given as goal

abbrev pub invariant-loop-j : goal.invariant-loop-j
invariant-loop-j l = Walking l.d l.settings.rows l.settings.first l.key l.version l.i l.j l.last l.at l.setting l.row
