use Rattle.wire.proofs.Verdicts.{refuses, accepts}
use Rattle.dxil_layout.proofs.Programs.{under_24, wrong_mark, past_end, inside}
use Rattle.dxil.proofs.judge.Goals as goal

pub returns-then-len-lt24 : goal.returns-then-len-lt24
returns-then-len-lt24 c = refuses _ _ c.refused.ensures (under_24 _ c.if-len-lt24.true)

pub returns-then-u32_at : goal.returns-then-u32_at
returns-then-u32_at c = refuses _ _ c.refused-then-u32_at.ensures (wrong_mark _ c.if-len-lt24.false c.u32_at.ensures c.u32_at-2.ensures c.if-u32_at.true)

pub returns-then-len-u32_at : goal.returns-then-len-u32_at
returns-then-len-u32_at c = refuses _ _ c.refused-then-len-u32_at.ensures (past_end _ c.if-len-lt24.false c.u32_at.ensures c.u32_at-2.ensures c.if-u32_at.false c.u32_at-3.ensures c.u32_at-4.ensures c.if-len-u32_at.true)

pub returns : goal.returns
returns c = accepts _ _ (inside _ c.if-len-lt24.false c.u32_at.ensures c.u32_at-2.ensures c.if-u32_at.false c.u32_at-3.ensures c.u32_at-4.ensures c.if-len-u32_at.false)
