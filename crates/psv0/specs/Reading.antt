-- A reading that accepts, as the private function takes it: the places of its sections.
use Rattle.std.specs.Prelude.{◌≡◌, List, ℕ}
use Rattle.wire.specs.Verdict.{Accepted}
use Rattle.psv0_layout.specs.Judged.{opened}
use Rattle.psv0_layout.specs.Layout.{edition_read_of}
use Rattle.psv0_sections.specs.Places.{places_of}
use Rattle.psv0_sections.specs.declared.Places.{Places}

-- p are the places of the data d in a reading that accepts it
pub record Reading (d : List ℕ) (p : Places) : Type 0 where
  pub edition : ℕ
  pub accepted : opened edition d ≡ Accepted
  pub places : p ≡ places_of (edition_read_of edition d) d
