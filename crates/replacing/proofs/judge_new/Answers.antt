use Rattle.wire.proofs.Verdicts.{refuses, accepts}
use Rattle.replacing_layout.proofs.Measuring.{new_refused, new_plain, new_other}
use Rattle.replacing_layout.proofs.Checks.{refused_as}
use Rattle.replacing.proofs.judge_new.Goals as goal

pub returns-in_err-read : goal.returns-in_err-read
returns-in_err-read c =
    refused_as _ _ (new_refused _ c.open_places.ensures c.in_err-read.was) c.from_residual.ensures

pub returns-then-plain_by : goal.returns-then-plain_by
returns-then-plain_by c =
    accepts _ _ (new_plain _ c.open_places.ensures c.in_ok-read.was c.u32_at.ensures c.plain_by.ensures c.if-plain_by.true)

pub returns : goal.returns
returns c =
    refuses _ _ c.refused.ensures (new_other _ c.open_places.ensures c.in_ok-read.was c.u32_at.ensures c.plain_by.ensures c.if-plain_by.false)
