use Rattle.wire.proofs.Searches.{Searched}
use Rattle.utf8.proofs.Records.{Place, ill}
use Rattle.utf8.proofs.MarkedTable.search.Given as goal

abbrev pub invariant-loop-i : goal.invariant-loop-i
invariant-loop-i l =
    Place l.r.records.now l.r.stride l.i l.at × Searched (ill l.self.bytes.now l.r.free l.r.records.now l.r.stride l.r.count l.r.last) l.r.len l.i
