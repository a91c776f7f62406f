use mathlib.Core.Path.{refl}
use borrow.Author.Tests.{le-leb, lt-leb}
use Rattle.wire.specs.Verdict.{◌then◌, check}
use Rattle.wire.proofs.Verdicts.{refuses, accepts}
use Rattle.wire.proofs.Choices.{differ, agree}
use Rattle.part_table_layout.specs.Table.{count_of, header_judged}
use Rattle.part_table.proofs.judge_header.Goals as goal
use Rattle.part_table.proofs.judge_header.Goals.{then-u16_at-ne1-via-then-u16_at-ne1, then-u16_at-ne1-via-else-u16_at-ne1+then-u16_at-ne0}

pub returns-then-len-lt32 : goal.returns-then-len-lt32
unfolding header_judged count_of check ◌then◌
returns-then-len-lt32 c = refuses _ _ c.refused.ensures (simp (lt-leb _ _ c.if-len-lt32.true))

pub returns-then-len-gt16777216 : goal.returns-then-len-gt16777216
unfolding header_judged count_of check ◌then◌
returns-then-len-gt16777216 c = refuses _ _ c.refused-then-len-gt16777216.ensures (simp (
  le-leb _ _ c.if-len-lt32.false,
  lt-leb _ _ c.if-len-gt16777216.true,
))

pub returns-then-u32_at : goal.returns-then-u32_at
unfolding header_judged count_of check ◌then◌
returns-then-u32_at c = refuses _ _ c.refused-then-u32_at.ensures (simp (
  le-leb _ _ c.if-len-lt32.false,
  le-leb _ _ c.if-len-gt16777216.false,
  differ c.u32_at.ensures c.u32_at-2.ensures c.if-u32_at.true,
))

pub returns-then-u16_at-ne1 : goal.returns-then-u16_at-ne1
unfolding header_judged count_of check ◌then◌
returns-then-u16_at-ne1 c =
    refuses _ _ c.refused-then-u16_at-ne1.ensures
    (elim c.then-u16_at-ne1.branch [
      | then-u16_at-ne1-via-then-u16_at-ne1 w ↦
          simp (
            le-leb _ _ c.if-len-lt32.false,
            le-leb _ _ c.if-len-gt16777216.false,
            agree c.u32_at.ensures c.u32_at-2.ensures c.if-u32_at.false,
            differ c.u16_at.ensures refl w.if-u16_at-ne1.true,
          )
      | then-u16_at-ne1-via-else-u16_at-ne1+then-u16_at-ne0 w ↦
          simp (
            le-leb _ _ c.if-len-lt32.false,
            le-leb _ _ c.if-len-gt16777216.false,
            agree c.u32_at.ensures c.u32_at-2.ensures c.if-u32_at.false,
            agree c.u16_at.ensures refl w.if-u16_at-ne1.false,
            differ w.u16_at-else-u16_at-ne1.ensures refl w.if-u16_at-ne0.true,
          )
    ])

pub returns-then-stated-len : goal.returns-then-stated-len
unfolding header_judged count_of check ◌then◌
returns-then-stated-len c = refuses _ _ c.refused-then-stated-len.ensures (simp (
  le-leb _ _ c.if-len-lt32.false,
  le-leb _ _ c.if-len-gt16777216.false,
  agree c.u32_at.ensures c.u32_at-2.ensures c.if-u32_at.false,
  agree c.u16_at.ensures refl c.if-u16_at-ne1.false,
  agree c.u16_at-else-u16_at-ne1.ensures refl c.if-u16_at-ne0.false,
  differ c.u32_at-stated.ensures refl c.if-stated-len.true,
))

pub returns-then-n-gt96 : goal.returns-then-n-gt96
unfolding header_judged count_of check ◌then◌
returns-then-n-gt96 c = refuses _ _ c.refused-then-n-gt96.ensures (simp (
  le-leb _ _ c.if-len-lt32.false,
  le-leb _ _ c.if-len-gt16777216.false,
  agree c.u32_at.ensures c.u32_at-2.ensures c.if-u32_at.false,
  agree c.u16_at.ensures refl c.if-u16_at-ne1.false,
  agree c.u16_at-else-u16_at-ne1.ensures refl c.if-u16_at-ne0.false,
  agree c.u32_at-stated.ensures refl c.if-stated-len.false,
  lt-leb _ _ (rw c.u32_at-n.ensures at c.if-n-gt96.true),
))

pub returns-then-len-n : goal.returns-then-len-n
unfolding header_judged count_of check ◌then◌
returns-then-len-n c = refuses _ _ c.refused-then-len-n.ensures (simp (
  le-leb _ _ c.if-len-lt32.false,
  le-leb _ _ c.if-len-gt16777216.false,
  agree c.u32_at.ensures c.u32_at-2.ensures c.if-u32_at.false,
  agree c.u16_at.ensures refl c.if-u16_at-ne1.false,
  agree c.u16_at-else-u16_at-ne1.ensures refl c.if-u16_at-ne0.false,
  agree c.u32_at-stated.ensures refl c.if-stated-len.false,
  le-leb _ _ (rw c.u32_at-n.ensures at c.if-n-gt96.false),
  lt-leb _ _ (rw c.u32_at-n.ensures at c.if-len-n.true),
))

pub returns : goal.returns
unfolding header_judged count_of check ◌then◌
returns c = accepts _ _ (simp (
  le-leb _ _ c.if-len-lt32.false,
  le-leb _ _ c.if-len-gt16777216.false,
  agree c.u32_at.ensures c.u32_at-2.ensures c.if-u32_at.false,
  agree c.u16_at.ensures refl c.if-u16_at-ne1.false,
  agree c.u16_at-else-u16_at-ne1.ensures refl c.if-u16_at-ne0.false,
  agree c.u32_at-stated.ensures refl c.if-stated-len.false,
  le-leb _ _ (rw c.u32_at-n.ensures at c.if-n-gt96.false),
  le-leb _ _ (rw c.u32_at-n.ensures at c.if-len-n.false),
))
