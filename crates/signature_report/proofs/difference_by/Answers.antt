use Rattle.signature_report_layout.proofs.Placed.{data_refused, data_judged_lem, data_passed}
use Rattle.signature_report.proofs.difference_by.Goals as goal

pub returns-in_err-read : goal.returns-in_err-read
returns-in_err-read c =
    let a = c.args in
    data_refused a.p a.b.now _ a.part c.read.ensures c.from_residual.ensures c.in_err-read.was

pub difference_in-requires : goal.difference_in-requires
difference_in-requires c =
    let a = c.args in
    data_judged_lem a.p a.b.now _ a.part c.read.ensures c.in_ok-read.was

pub returns : goal.returns
returns c =
    let a = c.args in
    data_passed a.p a.b.now _ a.part c.read.ensures c.in_ok-read.was c.difference_in.ensures
