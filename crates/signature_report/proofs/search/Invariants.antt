use Rattle.wire.proofs.Searches.{Searched}
use Rattle.signature_layout.specs.Signature.{count_of}
use Rattle.signature_report_layout.specs.Listed.{listed}
use Rattle.signature_report_layout.specs.Reported.{differs_at}
use Rattle.signature_report.proofs.search.Given as goal

abbrev pub invariant-loop-i : goal.invariant-loop-i
invariant-loop-i l = Searched (differs_at l.d (listed l.t l.e l.before l.size l.w)) (count_of l.d) l.i
