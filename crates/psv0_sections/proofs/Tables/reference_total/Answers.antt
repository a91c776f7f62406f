use native.Mathlib.Omega.{arith}
use lib.ListN.{length}
use Rattle.psv0_layout.proofs.Judgements.{count_least, total_early, total_later}
use Rattle.psv0_sections.proofs.Tables.reference_total.Goals as goal

pub returns-then-self-lt3 : goal.returns-then-self-lt3
returns-then-self-lt3 c = total_early _ _ c.if-self-lt3.true

pub overflow_add-result : goal.overflow_add-result
overflow_add-result c =
    let s = c.args.self.now in
    omega (arith, count_least s.count s.stride (length s.elements.now) s.known s.inside)

pub returns : goal.returns
returns c = total_later _ _ c.if-self-lt3.false
