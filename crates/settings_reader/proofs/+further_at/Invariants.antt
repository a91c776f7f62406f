use Rattle.settings_reader.proofs.+further_at.Given as goal

abbrev pub decreases-further_at : goal.decreases-further_at
decreases-further_at l = l.k
