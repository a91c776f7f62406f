-- What replacing PSV0 answers, and what its output holds afterwards.
use Rattle.std.specs.Prelude.{◌≡◌, List, ℕ, Result, ◌+◌, ◌-◌, ◌*◌, ◌≤◌, ◌<◌, length}
use Rattle.wire.specs.Verdict.{under, Accepted}
use Rattle.wire.specs.declared.Refusal.{Refusal}
use Rattle.part_table_layout.specs.Table.{count_of, offset_at, size_at, table_judged}
use Rattle.container_layout.specs.Placed.{container_places}
use Rattle.psv0_writer_layout.specs.Written.{output_if}
use Rattle.replacing_layout.specs.Judged.{replacing_judged}
use Rattle.replacing_layout.specs.Replaced.{replaced}
use Rattle.replacing_layout.specs.declared.Replacement.{Replacement}

-- the length of the result, and "the record .. of a fresh opening" of it
unfoldable pub replacement_of : ℕ → List ℕ → List ℕ → ℕ → Result Replacement Refusal
replacement_of k b new room =
    under (replacing_judged k b new room) (record { len = length (replaced b new); places = container_places k (replaced b new) })

-- the output at exit, which held o: the result and then o's bytes, or all of o beside a refusal
unfoldable pub output_of : ℕ → List ℕ → List ℕ → List ℕ → List ℕ
output_of k b new o = output_if (replacing_judged k b new (length o)) (replaced b new) o

-- replacing was called with edition k, the container b, the PSV0 data new and an output that held o: it answers r and leaves l there
pub record Replacing (k : ℕ) (b new o : List ℕ) (r : Result Replacement Refusal) (l : List ℕ) : Type 0 where
  pub answered : r ≡ replacement_of k b new (length o)
  pub left : l ≡ output_of k b new o

-- ---- parts of it
-- part i of the container b, whose header stands at a place and whose data are of size bytes, may get n bytes of data
pub record Replaceable (b : List ℕ) (i at size n : ℕ) : Type 0 where
  pub table : table_judged b ≡ Accepted
  pub listed : i < count_of b
  pub placed : at ≡ offset_at b i
  pub sized : size ≡ size_at b i
  -- what 1 to 9 tell of these numbers
  pub few : count_of b ≤ 96
  pub after : 32 + 4 * count_of b ≤ at
  pub inside : at + 8 + size ≤ length b
  -- 2, of the container and of the result
  pub long : length b ≤ 16777216
  pub short : length b + n - size ≤ 16777216
