use native.Mathlib.Omega.{arith}
use Rattle.figures_counter.proofs.Answers.{other_answer, room_answer, joined_answer}
use Rattle.figures_counter.proofs.join.Goals as goal

pub returns-then-f-g : goal.returns-then-f-g
returns-then-f-g c = other_answer c.args.f c.args.g c.if-f-g.true

pub returns-then-from-gt65535 : goal.returns-then-from-gt65535
returns-then-from-gt65535 c = room_answer c.args.f c.args.g c.if-f-g.false (omega arith)

pub returns : goal.returns
returns c = joined_answer c.args.f c.args.g c.if-f-g.false (omega arith) c.sum_all.ensures
