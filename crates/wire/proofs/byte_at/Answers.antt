use Rattle.wire.proofs.Numbers.{past_end}
use borrow.Author.Rules.{rules}
use Rattle.wire.proofs.byte_at.Goals as goal

pub returns : goal.returns
returns c = past_end c.args.b.now c.args.at (search rules)
