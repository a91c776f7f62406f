-- What the writer is given, what it writes, when it refuses, and what it leaves.
use Rattle.std.specs.Prelude.{Result, ◌≡◌, List, [], ◌∷◌, ◌++◌, ℕ, ◌%◌, leb, eqb, length, drop}
use Rattle.wire.specs.Verdict.{◌then◌, check, under, Verdict, Accepted, Refused}
use Rattle.wire.specs.declared.Refusal.{Refusal}
use Rattle.settings_layout.specs.declared.Row.{Row}
use Rattle.settings_layout.specs.Rules.{row}
use Rattle.settings_layout.specs.File.{judged}
use Rattle.settings_layout.specs.Laid.{laid}

-- "rows as numbers, three a row": version, key and value
unfoldable pub rows_given : List ℕ → List Row
rows_given [] = []
rows_given (v ∷ []) = []
rows_given (v ∷ k ∷ []) = []
rows_given (v ∷ k ∷ x ∷ l) = row v k x ∷ rows_given l

-- and back
unfoldable pub numbers_of : List Row → List ℕ
numbers_of [] = []
numbers_of (r ∷ l) = r.version ∷ r.key ∷ r.value ∷ numbers_of l

-- its result
unfoldable pub written : List ℕ → List ℕ
written g = laid (rows_given g)

-- 27 "where they aren't whole rows"; "The writer gives what reading its result would, then 28"; room is the output's length
unfoldable pub writer_judged : List ℕ → ℕ → Verdict
writer_judged g room =
    check (eqb (length g % 3) 0) 27 0
    then judged (written g)
    then check (leb (length (written g)) room) 28 0

-- the answer: the length of the result
abbrev pub answer : List ℕ → ℕ → Result ℕ Refusal
answer g room = under (writer_judged g room) (length (written g))

-- the output at exit, which held o: "a refusal leaves the output; bytes past the result keep their contents"
unfoldable pub output_if : Verdict → List ℕ → List ℕ → List ℕ
output_if Accepted l o = l ++ drop (length l) o
output_if (Refused n p) l o = o

abbrev pub output : List ℕ → List ℕ → List ℕ
output g o = output_if (writer_judged g (length o)) (written g) o

-- the writer was called with g and an output that held o: it answers r and leaves l there
pub record Wrote (g o : List ℕ) (r : Result ℕ Refusal) (l : List ℕ) : Type 0 where
  pub answered : r ≡ answer g (length o)
  pub left : l ≡ output g o
