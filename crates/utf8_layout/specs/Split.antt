-- A string as a row of sequences.
use Rattle.std.specs.Prelude.{◌≡◌, Bool, true, ◌&&◌, List, [], ◌∷◌, ◌++◌, ℕ, ltb, eqb, length}
use Rattle.utf8_layout.specs.Sequence.{table, front}

-- bytes that a row of the table fits, with none left over
unfoldable pub is_sequence : List ℕ → Bool
is_sequence s = ltb 0 (length s) && eqb (front table s) (length s)

unfoldable pub are_sequences : List (List ℕ) → Bool
are_sequences [] = true
are_sequences (s ∷ ss) = is_sequence s && are_sequences ss

unfoldable pub join : List (List ℕ) → List ℕ
join [] = []
join (s ∷ ss) = s ++ join ss

-- sequences that, one after the other, are the string
pub record Split (l : List ℕ) (ss : List (List ℕ)) : Type 0 where
  pub sequences : are_sequences ss ≡ true
  pub joined : join ss ≡ l
