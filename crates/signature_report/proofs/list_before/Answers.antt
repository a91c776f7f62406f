use Rattle.signature_report.proofs.list_before.Goals as goal

pub returns-in-Patch : goal.returns-in-Patch
returns-in-Patch c = rw c.in-Patch.is
