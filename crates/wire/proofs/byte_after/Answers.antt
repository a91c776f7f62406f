use Rattle.wire.proofs.Numbers.{past_end}
use native.Mathlib.Omega.{arith}
use borrow.Author.Rules.{rules}
use Rattle.wire.proofs.byte_after.Goals as goal

pub returns-then-len-at : goal.returns-then-len-at
returns-then-len-at c = (past_end c.args.b.now _ (omega arith), search rules)

pub returns-then-len-at-2 : goal.returns-then-len-at-2
returns-then-len-at-2 c = (past_end c.args.b.now _ (omega arith), search rules)
