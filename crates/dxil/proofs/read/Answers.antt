use mathlib.Core.Path.{sym}
use Rattle.wire.proofs.Verdicts.{passed_on, accepted_by}
use Rattle.dxil_layout.specs.Program.{program_of, header_of, bitcode_start}
use Rattle.dxil_layout.proofs.Programs.{all_shown}
use Rattle.dxil.proofs.read.Goals as goal

pub returns-in_err-judge : goal.returns-in_err-judge
unfolding program_of
returns-in_err-judge c = passed_on _ _ c.judge.ensures _ c.from_residual.ensures c.in_err-judge.was

pub returns : goal.returns
unfolding header_of bitcode_start
returns c = rw c.header-header.ensures (all_shown _ (sym (accepted_by _ _ c.judge.ensures c.in_ok-judge.was)))
