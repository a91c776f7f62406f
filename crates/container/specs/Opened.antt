-- What opening a container answers.
use Rattle.std.specs.Prelude.{List, Result, ℕ, ◌+◌}
use Rattle.constants.specs.Edition.{file_edition_of}
use Rattle.wire.specs.Number.{u32_at}
use Rattle.wire.specs.Verdict.{under, Verdict}
use Rattle.wire.specs.declared.Refusal.{Refusal}
use Rattle.part_table_layout.specs.Lookup.{find, find_occurrence, part_at}
use Rattle.part_table_layout.specs.Table.{count_of}
use Rattle.psv0_layout.specs.Layout.{edition_read_of}
use Rattle.container_layout.specs.Container.{psv0, start_found, size_found, psv_of, before_psv, container_judged}
use Rattle.container_layout.specs.Placed.{container_places}
use Rattle.places_layout.specs.declared.SectionPlaces.{SectionPlaces}
use Rattle.container.specs.declared.ContainerOpening.{ContainerOpening}
use Rattle.container.specs.declared.ContainerPlaces.{ContainerPlaces}
use Rattle.container.specs.declared.PsvPart.{PsvPart}

-- the number of parts, where the PSV0 data start and end, and what a lookup gives of the name x
abbrev pub psv_shown : List ℕ → ℕ → PsvPart
psv_shown b x =
    record {
      parts = count_of b;
      start = start_found b (find b psv0);
      end = start_found b (find b psv0) + size_found b (find b psv0);
      asked = part_at b (find_occurrence b x 0);
    }

-- the same under what is checked before the PSV0 data
unfoldable pub psv_part_of : ℕ → List ℕ → ℕ → Result PsvPart Refusal
psv_part_of k b x = under (before_psv k b) (psv_shown b x)

-- an opening under a verdict
abbrev pub opening_if : Verdict → ℕ → ℕ → ℕ → Result ContainerOpening Refusal
opening_if v parts f e = under v (record { parts = parts; file_edition = f; edition_read = e })

-- an opening at edition k: the number of parts, the file's edition and the edition read
unfoldable pub container_opening_of : ℕ → List ℕ → Result ContainerOpening Refusal
container_opening_of k b = opening_if (container_judged k b) (count_of b) (file_edition_of (u32_at (psv_of b) 0)) (edition_read_of k (psv_of b))

-- an opening with its places under a verdict
abbrev pub placed_if : Verdict → ℕ → ℕ → SectionPlaces → Result ContainerPlaces Refusal
placed_if v parts f p = under v (record { parts = parts; file_edition = f; places = p })

-- an opening at edition k: the number of parts, the file's edition and the places
unfoldable pub container_places_of : ℕ → List ℕ → Result ContainerPlaces Refusal
container_places_of k b = placed_if (container_judged k b) (count_of b) (file_edition_of (u32_at (psv_of b) 0)) (container_places k b)
