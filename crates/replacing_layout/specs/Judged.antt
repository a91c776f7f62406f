-- When replacing PSV0 refuses. Document 02, Ask 11: "Refusals, in this order, change neither: those of opening, reader 3's for the new part (27 if it
-- isn't plain), 2 for a result too long, 28".
use Rattle.std.specs.Prelude.{Bool, ◌&&◌, ◌||◌, List, ℕ, ◌+◌, ◌*◌, leb, eqb, length, take}
use Rattle.constants.specs.Edition.{size_of, file_edition_of}
use Rattle.wire.specs.Choice.{choose}
use Rattle.wire.specs.Number.{u32_at}
use Rattle.wire.specs.Verdict.{◌then◌, check, Verdict}
use Rattle.psv0_layout.specs.Field.{sum, mask_bytes_of}
use Rattle.psv0_layout.specs.Judged.{opened}
use Rattle.psv0_layout.specs.Layout.{sections, guide_of, after2, after5}
use Rattle.psv0_writer_layout.specs.Written.{resource_size_of}
use Rattle.places_layout.specs.declared.SectionPlaces.{SectionPlaces}
use Rattle.container_layout.specs.Container.{container_judged}
use Rattle.replacing_layout.specs.Replaced.{replaced}

-- n records, where there are any, are of s bytes each
abbrev pub sized_as : ℕ → ℕ → ℕ → Bool
sized_as n stride s = eqb n 0 || eqb stride s

-- plain form as a test, of data that reader 3 accepts: "with S equal to an edition's size, these record sizes, and nothing after the last section"
unfoldable pub is_plain : List ℕ → Bool
is_plain d =
    eqb (u32_at d 0) (size_of (file_edition_of (u32_at d 0)))
    && sized_as (sections d).resources.count (sections d).resources.stride (resource_size_of (file_edition_of (u32_at d 0)))
    && choose (leb 1 (file_edition_of (u32_at d 0))) (sized_as (sections d).elements.count (sections d).elements.stride 16 && leb (length (after5 d)) (mask_bytes_of (guide_of d)))
    (eqb (length (after2 d)) 0)

-- the same by the record p of PSV0 data of n bytes that state the size s of their runtime record: the last section ends where the data do
unfoldable pub plain_by : SectionPlaces → ℕ → ℕ → Bool
plain_by p s n =
    eqb s (size_of p.edition)
    && sized_as p.resource_count p.resource_size (resource_size_of p.edition)
    && choose (leb 1 p.edition) (sized_as p.element_count p.element_size 16 && eqb n (p.masks + sum (take 11 p.mask_words) * 4))
    (eqb n (p.resources + p.resource_count * p.resource_size))

-- "reader 3's for the new part (27 if it isn't plain)"
unfoldable pub new_judged : List ℕ → Verdict
new_judged new = opened 3 new then check (is_plain new) 27 0

-- b is opened at edition k; room is the output's length
unfoldable pub replacing_judged : ℕ → List ℕ → List ℕ → ℕ → Verdict
replacing_judged k b new room =
    container_judged k b
    then new_judged new
    then check (leb (length (replaced b new)) 16777216) 2 0
    then check (leb (length (replaced b new)) room) 28 0
