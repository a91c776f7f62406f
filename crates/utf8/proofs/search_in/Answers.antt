use Prim.Native.Nat.{ℕ}
use Rattle.std.proofs.lemmas.List.{length-replicate}
use Rattle.utf8.proofs.search_in.Goals as goal

pub mark_all-requires : goal.mark_all-requires
mark_all-requires g c = simp (length-replicate {A = ℕ}) c.requires
