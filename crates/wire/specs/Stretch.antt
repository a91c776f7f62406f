-- A stretch of a slice that is written as a whole, and two that are compared.
use Rattle.std.specs.Prelude.{Bool, true, false, ◌&&◌, List, [], ◌∷◌, ℕ, eqb, length}
use Rattle.wire.specs.Choice.{choose}

-- the list s in the place of the list o, where they are equally long; else o
unfoldable pub copied : List ℕ → List ℕ → List ℕ
copied o s = choose (eqb (length o) (length s)) s o

-- whether two lists have the same bytes, and so the same length
unfoldable pub same_bytes : List ℕ → List ℕ → Bool
same_bytes [] [] = true
same_bytes [] (y ∷ m) = false
same_bytes (x ∷ l) [] = false
same_bytes (x ∷ l) (y ∷ m) = eqb x y && same_bytes l m
