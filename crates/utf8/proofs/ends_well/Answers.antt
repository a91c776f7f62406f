use native.Mathlib.Omega.{arith}
use Rattle.utf8.specs.Machine.{between}
use Rattle.utf8.proofs.Stops.{read_good}
use Rattle.utf8.proofs.ends_well.Goals as goal

pub run-requires : goal.run-requires
run-requires c = let p = c.requires in (omega (arith, p.0), omega (arith, p.1), between)

pub returns : goal.returns
returns c =
    let a = c.args in
    read_good a.t.now a.o a.to _ c.requires.0 c.requires.1 c.requires.2 c.run.ensures.0
