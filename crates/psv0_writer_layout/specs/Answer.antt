-- What the PSV0 writer answers, and what its output holds afterwards.
use Rattle.std.specs.Prelude.{◌≡◌, List, ℕ, Result, min, length}
use Rattle.wire.specs.Verdict.{under}
use Rattle.wire.specs.declared.Refusal.{Refusal}
use Rattle.psv0_writer_layout.specs.Written.{Given, written, writer_judged, output_if}

-- "the runtime record .. and resource records, strings, indices, elements and mask words as bytes"
abbrev pub given : List ℕ → List ℕ → List ℕ → List ℕ → List ℕ → List ℕ → Given
given runtime resources strings indices elements masks =
    record {
      runtime = runtime;
      resources = resources;
      strings = strings;
      indices = indices;
      elements = elements;
      masks = masks;
    }

-- the length of what is written, or the refusal
abbrev pub answer : ℕ → Given → ℕ → Result ℕ Refusal
answer e g room = under (writer_judged e g room) (length (written e g))

-- the output at exit, which held o: what is written and then o's bytes, or all of o beside a refusal
unfoldable pub output : ℕ → Given → List ℕ → List ℕ
output e g o = output_if (writer_judged e g (length o)) (written e g) o

-- the writer was called with e, g and an output that held o: it answers r and leaves l there
pub record Wrote (e : ℕ) (g : Given) (o : List ℕ) (r : Result ℕ Refusal) (l : List ℕ) : Type 0 where
  pub answered : r ≡ answer e g (length o)
  pub left : l ≡ output e g o

-- a length that is counted no further than one past the limit, so that no sum wraps
abbrev pub capped : ℕ → ℕ
capped n = min n 16777217
