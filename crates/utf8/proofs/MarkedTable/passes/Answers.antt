use mathlib.Core.Logic.{⊎_elim}
use Rattle.utf8.proofs.Records.{passes_free, passes_bound, passes_named}
use Rattle.utf8.proofs.MarkedTable.passes.Goals as goal

pub returns-then-o-eq0 : goal.returns-then-o-eq0
returns-then-o-eq0 c = passes_free _ _ _ c.if-free.true c.if-o-eq0.true

pub returns : goal.returns
returns c =
    ⊎_elim (λ q. passes_named _ _ _ _ q.1 c.good_at.ensures) (λ q. passes_bound _ _ _ _ q c.good_at.ensures) c.else-free.either
