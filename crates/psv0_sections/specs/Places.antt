-- Where the sections of PSV0 data lie, for a reading at an edition.
use Rattle.std.specs.Prelude.{◌≡◌, List, ℕ, ◌+◌, ◌*◌, ◌≤◌, leb, Result, length, take, drop}
use Rattle.wire.specs.Choice.{choose}
use Rattle.wire.specs.Number.{u32_at}
use Rattle.wire.specs.Verdict.{under}
use Rattle.wire.specs.declared.Refusal.{Refusal}
use Rattle.psv0_layout.specs.Field.{element_total, mask_bytes_of}
use Rattle.psv0_layout.specs.Judged.{opened}
use Rattle.psv0_layout.specs.Layout.{guide_of, sections, edition_read_of}
use Rattle.psv0_layout.specs.Position.{stride_at, first_record, resources_start, strings_start, indices_start, elements_start, masks_start}
use Rattle.psv0_sections.specs.declared.Places.{Places}

-- sections 1 and 2 alone, by S and the resource records' position, count and size
abbrev pub head_only : ℕ → ℕ → ℕ → ℕ → Places
head_only s at n t =
    record {
      edition = 0;
      size = s;
      resources = at;
      resource_count = n;
      resource_size = t;
      strings = 0;
      string_bytes = 0;
      indices = 0;
      index_count = 0;
      elements = 0;
      element_count = 0;
      element_size = 0;
      masks = 0;
      mask_bytes = 0;
    }

-- at edition read 0: sections 1 and 2
unfoldable pub head_places : List ℕ → Places
head_places d =
    head_only (u32_at d 0) (first_record (u32_at d (resources_start d)) (resources_start d + 4)) (u32_at d (resources_start d))
    (stride_at (u32_at d (resources_start d)) d (resources_start d + 4))

-- at a later edition: all six
unfoldable pub body_places : ℕ → List ℕ → Places
body_places er d =
    record {
      edition = er;
      size = u32_at d 0;
      resources = first_record (u32_at d (resources_start d)) (resources_start d + 4);
      resource_count = u32_at d (resources_start d);
      resource_size = stride_at (u32_at d (resources_start d)) d (resources_start d + 4);
      strings = strings_start d + 4;
      string_bytes = u32_at d (strings_start d);
      indices = indices_start d + 4;
      index_count = u32_at d (indices_start d);
      elements = first_record (element_total (guide_of d)) (elements_start d);
      element_count = element_total (guide_of d);
      element_size = stride_at (element_total (guide_of d)) d (elements_start d);
      masks = masks_start d;
      mask_bytes = mask_bytes_of (guide_of d);
    }

unfoldable pub places_of : ℕ → List ℕ → Places
places_of er d = choose (leb 1 er) (body_places er d) (head_places d)

-- what reader k finds: the places, under its verdict on PSV0 data alone
unfoldable pub located_of : ℕ → List ℕ → Result Places Refusal
located_of k d = under (opened k d) (places_of (edition_read_of k d) d)

-- the bytes of d from a position on
abbrev pub stretch : List ℕ → ℕ → ℕ → List ℕ
stretch d at n = take n (drop at d)

-- what the places of sections 1 and 2 say of the data, and those of sections 3 to 6
pub record HeadPlaced (d : List ℕ) (p : Places) : Type 0 where
  pub runtime : stretch d 4 p.size ≡ (sections d).runtime
  pub runtime_fits : 4 + p.size ≤ length d
  pub size : p.size ≡ u32_at d 0
  pub least : 24 ≤ p.size
  pub count : p.resource_count ≡ (sections d).resources.count
  pub stride : p.resource_size ≡ (sections d).resources.stride
  pub resources : stretch d p.resources (p.resource_count * p.resource_size) ≡ (sections d).resources.bytes
  pub enough : 1 ≤ p.resource_count → 16 ≤ p.resource_size
  pub resources_fit : p.resources + p.resource_count * p.resource_size ≤ length d

pub record BodyPlaced (d : List ℕ) (p : Places) : Type 0 where
  pub strings : stretch d p.strings p.string_bytes ≡ (sections d).strings
  pub strings_fit : p.strings + p.string_bytes ≤ length d
  pub indices : stretch d p.indices (p.index_count * 4) ≡ (sections d).indices
  pub indices_fit : p.indices + p.index_count * 4 ≤ length d
  pub count : p.element_count ≡ (sections d).elements.count
  pub stride : p.element_size ≡ (sections d).elements.stride
  pub elements : stretch d p.elements (p.element_count * p.element_size) ≡ (sections d).elements.bytes
  pub enough : 1 ≤ p.element_count → 16 ≤ p.element_size
  pub elements_fit : p.elements + p.element_count * p.element_size ≤ length d
  pub masks : stretch d p.masks p.mask_bytes ≡ (sections d).masks
  pub masks_fit : p.masks + p.mask_bytes ≤ length d
  pub mask_bytes_of : p.mask_bytes ≡ mask_bytes_of (guide_of d)

-- the places of an accepted reading at edition read er
pub record Placed (er : ℕ) (d : List ℕ) (p : Places) : Type 0 where
  pub edition : p.edition ≡ er
  pub head : HeadPlaced d p
  pub body : 1 ≤ er → BodyPlaced d p
