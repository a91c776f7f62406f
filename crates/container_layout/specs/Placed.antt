-- The record of places of an opening of a container (document 02, Ask 11).
use Rattle.std.specs.Prelude.{List, ℕ}
use Rattle.part_table_layout.specs.Lookup.{find}
use Rattle.psv0_layout.specs.Layout.{edition_read_of}
use Rattle.places_layout.specs.Placed.{places_at}
use Rattle.places_layout.specs.declared.SectionPlaces.{SectionPlaces}
use Rattle.container_layout.specs.Container.{psv0, start_found, psv_of}

-- of the container b, opened at edition k: the places of its PSV0 data, as offsets in the container
unfoldable pub container_places : ℕ → List ℕ → SectionPlaces
container_places k b = places_at (start_found b (find b psv0)) (edition_read_of k (psv_of b)) (psv_of b)
