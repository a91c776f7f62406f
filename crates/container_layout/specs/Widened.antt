-- Widening of a container (document 01's term), for reader k.
use Rattle.std.specs.Prelude.{◌≡◌, List, ℕ, ◌<◌}
use Rattle.container_layout.specs.Container.{psv0}
use Rattle.part_table_layout.specs.Table.{count_of, name_at, data_at, table_judged}
use Rattle.psv0_layout.specs.Widened.{Widening}
use Rattle.wire.specs.Verdict.{Accepted}

-- "a container of at most 16,777,216 bytes that passes 1 to 9, with the same parts in order, equal but for PSV0, whose data differ only
-- so": as a widening of the PSV0 data
pub record WiderContainer (k : ℕ) (b b' : List ℕ) : Type 0 where
  pub passes : table_judged b' ≡ Accepted
  pub counts : count_of b' ≡ count_of b
  pub names : (i : ℕ) → i < count_of b → name_at b' i ≡ name_at b i
  pub others : (i : ℕ) → i < count_of b → (name_at b i ≡ psv0 → ⊥) → data_at b' i ≡ data_at b i
  pub psv : (i : ℕ) → i < count_of b → name_at b i ≡ psv0 → Widening k (data_at b i) (data_at b' i)
