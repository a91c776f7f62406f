-- PSV0 data, section after section: each section is read off the front of what is left and hands on the rest.
-- "The reader's position moves forward through these sections and never back."
-- All of it is total: past the end a byte is 0. Whether a section fits is a test of its own.
use Rattle.std.specs.Prelude.{Bool, true, ◌&&◌, List, [], ◌∷◌, ℕ, zero, suc, ◌*◌, ◌%◌, min, leb, eqb, length, take, drop}
use Rattle.constants.specs.Edition.{size_of, file_edition_of}
use Rattle.wire.specs.Choice.{choose}
use Rattle.wire.specs.Number.{u32_at}
use Rattle.psv0_layout.specs.Field.{element_total, mask_bytes_of}

-- ---- a section that is a count, 4 bytes, and then u bytes for each
unfoldable pub counted : ℕ → List ℕ → List ℕ
counted u l = take (u32_at l 0 * u) (drop 4 l)

unfoldable pub after_counted : ℕ → List ℕ → List ℕ
after_counted u l = drop (u32_at l 0 * u) (drop 4 l)

unfoldable pub counted_fits : ℕ → List ℕ → Bool
counted_fits u l = leb 4 (length l) && leb (u32_at l 0 * u) (length (drop 4 l))

-- ---- records: with none, nothing; else "record size, 4 bytes, a multiple of 4 and at least 16; then R records of that size"
pub record Records : Type 0 where
  pub count : ℕ
  pub stride : ℕ
  pub bytes : List ℕ

unfoldable pub records : ℕ → List ℕ → Records
records zero l = record { count = 0; stride = 0; bytes = [] }
records (suc n) l = record { count = suc n; stride = u32_at l 0; bytes = take (suc n * u32_at l 0) (drop 4 l) }

unfoldable pub after_records : ℕ → List ℕ → List ℕ
after_records zero l = l
after_records (suc n) l = drop (suc n * u32_at l 0) (drop 4 l)

unfoldable pub records_fit : ℕ → List ℕ → Bool
records_fit zero l = true
records_fit (suc n) l =
    leb 4 (length l) && eqb (u32_at l 0 % 4) 0 && leb 16 (u32_at l 0) && leb (suc n * u32_at l 0) (length (drop 4 l))

-- the first w bytes of each of n records that are s bytes apart
unfoldable pub rows : ℕ → ℕ → ℕ → List ℕ → List (List ℕ)
rows w zero s l = []
rows w (suc n) s l = take w l ∷ rows w n s (drop s l)

-- ---- what the six sections hold
pub record Sections : Type 0 where
  pub runtime : List ℕ
  pub resources : Records
  pub strings : List ℕ
  pub indices : List ℕ
  pub elements : Records
  pub masks : List ℕ

module _ (d : List ℕ) where
  -- 1: "S, 4 bytes, then S bytes of runtime record"
  abbrev pub runtime_of : List ℕ
  runtime_of = counted 1 d

  abbrev pub after1 : List ℕ
  after1 = after_counted 1 d

  -- the part of it that later sections go by: edition 1's
  abbrev pub guide_of : List ℕ
  guide_of = take (size_of 1) runtime_of

  -- 2: "R, 4 bytes. If R > 0: record size .. then R records of that size"
  abbrev pub resource_count_of : ℕ
  resource_count_of = u32_at after1 0

  abbrev pub after2 : List ℕ
  after2 = after_records resource_count_of (drop 4 after1)

  -- 3: "String table: T, 4 bytes, a multiple of 4; T bytes"
  abbrev pub after3 : List ℕ
  after3 = after_counted 1 after2

  -- 4: "Index table: N, 4 bytes; N numbers of 4 bytes"
  abbrev pub after4 : List ℕ
  after4 = after_counted 4 after3

  -- 5: "If E, the sum of the three element counts, is above 0: record size .. then E records"
  abbrev pub after5 : List ℕ
  after5 = after_records (element_total guide_of) after4

  -- 6: "Masks"
  unfoldable pub sections : Sections
  sections =
      record {
        runtime = runtime_of;
        resources = records resource_count_of (drop 4 after1);
        strings = counted 1 after2;
        indices = counted 4 after3;
        elements = records (element_total guide_of) after4;
        masks = take (mask_bytes_of guide_of) after5;
      }

-- "A reader of edition k treats the file as the lesser of k and the file's edition: the edition read" (document 01's term)
abbrev pub edition_read_of : ℕ → List ℕ → ℕ
edition_read_of k d = min k (file_edition_of (u32_at d 0))

-- "An opening that names no edition now reads as edition 3" (document 02, Ask 5). This is the only place that says so.
abbrev pub default_edition : ℕ
default_edition = 3

-- ---- what a reading at an edition looks at: the runtime record up to the edition's size ("Bytes of the record past that edition
-- are ignored"), of each record the fields that the edition knows, and sections 3 to 6 from edition 1 on
pub record Body : Type 0 where
  pub strings : List ℕ
  pub indices : List ℕ
  pub elements : List (List ℕ)
  pub masks : List ℕ

pub record Seen : Type 0 where
  pub runtime : List ℕ
  pub resources : List (List ℕ)
  pub body : Body

abbrev pub no_body : Body
no_body = record { strings = []; indices = []; elements = []; masks = [] }

unfoldable pub body_of : Sections → Body
body_of s =
    record {
      strings = s.strings;
      indices = s.indices;
      elements = rows 16 s.elements.count s.elements.stride s.elements.bytes;
      masks = s.masks;
    }

-- "kind and flags, set only when the record size is at least 24 and the edition read is at least 2"
abbrev pub resource_width : ℕ → ℕ → ℕ
resource_width e s = choose (leb 2 e && leb 24 s) 24 16

unfoldable pub seen : ℕ → Sections → Seen
seen e s =
    record {
      runtime = take (size_of e) s.runtime;
      resources = rows (resource_width e s.resources.stride) s.resources.count s.resources.stride s.resources.bytes;
      body = choose (leb 1 e) (body_of s) no_body;
    }
