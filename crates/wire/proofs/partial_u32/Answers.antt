use Rattle.wire.specs.Number.{u32_at}
use borrow.Author.Rules.{rules}
use Rattle.wire.proofs.partial_u32.Goals as goal

pub returns : goal.returns
unfolding u32_at
returns c = search rules
