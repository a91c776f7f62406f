-- The record that an opening hands back (document 02, Ask 11): "a record of the places and sizes of the sections and of what decides 26 and list
-- lengths". Numbers only.
use Rattle.std.specs.Prelude.{List, Result, ℕ, ◌+◌, ◌%◌, leb, replicate}
use Rattle.constants.specs.Edition.{file_edition_of}
use Rattle.wire.specs.Choice.{choose}
use Rattle.wire.specs.Number.{u32_at}
use Rattle.wire.specs.Verdict.{under}
use Rattle.wire.specs.declared.Refusal.{Refusal}
use Rattle.psv0_layout.specs.Field.{stage, element_total, mask_words_of}
use Rattle.psv0_layout.specs.Judged.{opened}
use Rattle.psv0_layout.specs.Layout.{guide_of, edition_read_of}
use Rattle.psv0_layout.specs.Position.{stride_at, first_record, resources_start, strings_start, indices_start, elements_start, masks_start}
use Rattle.places_layout.specs.declared.PlacesAnswer.{PlacesAnswer}
use Rattle.places_layout.specs.declared.SectionPlaces.{SectionPlaces}

-- sections 1 and 2 alone: the runtime record's place, and the resource records' place, count and size
abbrev pub head_only : ℕ → ℕ → ℕ → ℕ → SectionPlaces
head_only runtime at n s =
    record {
      edition = 0;
      runtime = runtime;
      stage = 0;
      resources = at;
      resource_count = n;
      resource_size = s;
      strings = 0;
      string_bytes = 0;
      indices = 0;
      index_count = 0;
      elements = 0;
      element_count = 0;
      element_size = 0;
      masks = 0;
      mask_words = replicate 11 0;
    }

-- no places: zeros, as the C interface hands back beside a refusal
abbrev pub no_places : SectionPlaces
no_places = head_only 0 0 0 0

-- of PSV0 data d whose first byte stands at the place o: at edition read 0 sections 1 and 2, the rest 0
unfoldable pub head_at : ℕ → List ℕ → SectionPlaces
head_at o d =
    head_only (o + 4) (o + first_record (u32_at d (resources_start d)) (resources_start d + 4)) (u32_at d (resources_start d))
    (stride_at (u32_at d (resources_start d)) d (resources_start d + 4))

-- at a later edition read: all six, the stage and the words of masks 0 to 10
unfoldable pub whole_at : ℕ → ℕ → List ℕ → SectionPlaces
whole_at o er d =
    record {
      edition = er;
      runtime = o + 4;
      stage = stage (guide_of d);
      resources = o + first_record (u32_at d (resources_start d)) (resources_start d + 4);
      resource_count = u32_at d (resources_start d);
      resource_size = stride_at (u32_at d (resources_start d)) d (resources_start d + 4);
      strings = o + (strings_start d + 4);
      string_bytes = u32_at d (strings_start d);
      indices = o + (indices_start d + 4);
      index_count = u32_at d (indices_start d);
      elements = o + first_record (element_total (guide_of d)) (elements_start d);
      element_count = element_total (guide_of d);
      element_size = stride_at (element_total (guide_of d)) d (elements_start d);
      masks = o + masks_start d;
      mask_words = mask_words_of (guide_of d);
    }

unfoldable pub places_at : ℕ → ℕ → List ℕ → SectionPlaces
places_at o er d = choose (leb 1 er) (whole_at o er d) (head_at o d)

-- a record whose places are counted from o bytes earlier on, as numbers of 32 bits; at edition read 0 sections 3 to 6 have no place
abbrev pub moved_place : ℕ → ℕ → ℕ
moved_place o at = (o + at) % 4294967296

unfoldable pub moved_by : ℕ → SectionPlaces → SectionPlaces
moved_by o p =
    record {
      edition = p.edition;
      runtime = moved_place o p.runtime;
      stage = p.stage;
      resources = moved_place o p.resources;
      resource_count = p.resource_count;
      resource_size = p.resource_size;
      strings = choose (leb 1 p.edition) (moved_place o p.strings) p.strings;
      string_bytes = p.string_bytes;
      indices = choose (leb 1 p.edition) (moved_place o p.indices) p.indices;
      index_count = p.index_count;
      elements = choose (leb 1 p.edition) (moved_place o p.elements) p.elements;
      element_count = p.element_count;
      element_size = p.element_size;
      masks = choose (leb 1 p.edition) (moved_place o p.masks) p.masks;
      mask_words = p.mask_words;
    }

-- what an opening of PSV0 data alone at edition k answers, with its record: the data start at 0
unfoldable pub opened_places : ℕ → List ℕ → Result PlacesAnswer Refusal
opened_places k d =
    under (opened k d) (record { file_edition = file_edition_of (u32_at d 0); places = places_at 0 (edition_read_of k d) d })
