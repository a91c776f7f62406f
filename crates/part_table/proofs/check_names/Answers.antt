use Rattle.part_table.proofs.check_names.Goals as goal

pub returns-then-counting : goal.returns-then-counting
returns-then-counting c = (c.compare_names.ensures.0, rw c.if-counting.true c.compare_names.ensures.1)
