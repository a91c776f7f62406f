use Rattle.signature_report.proofs.part_of.Goals as goal

pub returns-in-Input : goal.returns-in-Input
returns-in-Input c = rw c.in-Input.is c.part.ensures

pub returns-in-Output : goal.returns-in-Output
returns-in-Output c = rw c.in-Output.is c.part-in-Output.ensures

pub returns-in-Patch : goal.returns-in-Patch
returns-in-Patch c = rw c.in-Patch.is c.part-in-Patch.ensures
