-- One container more, by its answer.
use Rattle.std.specs.Prelude.{◌≡◌, ℕ, ◌<◌, eqb, Some}
use Rattle.wire.specs.Choice.{choose}
use Rattle.figures_layout.specs.declared.Figures.{Figures}
use Rattle.figures_layout.specs.declared.Told.{Told}
use Rattle.figures_layout.specs.Kinds.{is_stage, is_unset}
use Rattle.figures_layout.specs.Figures.{most_bytes, sum_up_to, plus, table, sums}

-- the tables have a place for what is told, as for all that an opening tells
pub record InRange (t : Told) : Type 0 where
  pub edition : t.file_edition < 4
  pub stage : (n : ℕ) → t.stage ≡ Some n → n < 16

-- a refusal with the number n
unfoldable pub one_refused : Figures → ℕ → Figures
one_refused f n =
    record {
      edition = f.edition;
      bytes = f.bytes;
      opened = plus f.opened 1;
      accepted = f.accepted;
      refused = plus f.refused 1;
      refusals = sums f.refusals (table (λ m. choose (eqb n m) 1 0) 28);
      editions = f.editions;
      stages = f.stages;
      unset = f.unset;
    }

-- an accepted container of n bytes of which t is told
unfoldable pub one_accepted : Figures → Told → ℕ → Figures
one_accepted f t n =
    record {
      edition = f.edition;
      bytes = sum_up_to most_bytes f.bytes n;
      opened = plus f.opened 1;
      accepted = plus f.accepted 1;
      refused = f.refused;
      refusals = f.refusals;
      editions = sums f.editions (table (λ m. choose (eqb t.file_edition m) 1 0) 4);
      stages = sums f.stages (table (λ m. choose (is_stage m t.stage) 1 0) 16);
      unset = plus f.unset (choose (is_unset t.stage) 1 0);
    }
