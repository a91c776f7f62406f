use Rattle.wire.proofs.Verdicts.{refuses, accepts}
use Rattle.psv0_layout.proofs.Judgements.{entry_early, entry_24, entry_ill, entry_passes}
use Rattle.psv0_sections.proofs.Tables.judge_entry.Goals as goal
use Rattle.psv0_sections.proofs.Tables.judge_entry.Goals.{then-end-self-via-then-end-self, then-end-self-via-else-end-self+then-self-ill}

pub returns-then-self-lt3 : goal.returns-then-self-lt3
returns-then-self-lt3 c = accepts _ _ (entry_early _ _ c.if-self-lt3.true)

pub returns-then-end-self : goal.returns-then-end-self
returns-then-end-self c =
    refuses _ _ c.refused.ensures
    (elim c.then-end-self.branch [
      | then-end-self-via-then-end-self w ↦ entry_24 _ _ _ _ c.args.ill c.if-self-lt3.false w.if-end-self.true
      | then-end-self-via-else-end-self+then-self-ill w ↦ entry_ill _ _ _ _ _ c.if-self-lt3.false w.if-end-self.false w.if-self-ill.true
    ])

pub returns : goal.returns
returns c = accepts _ _ (entry_passes _ _ _ _ _ c.if-self-lt3.false c.if-end-self.false c.if-self-ill.false)
