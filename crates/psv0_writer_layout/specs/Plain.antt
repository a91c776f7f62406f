-- Plain form (document 01's term).
use Rattle.std.specs.Prelude.{◌≡◌, List, [], ℕ, ◌≤◌, ◌<◌, drop}
use Rattle.constants.specs.Edition.{size_of}
use Rattle.wire.specs.Number.{u32_at}
use Rattle.wire.specs.Verdict.{Accepted}
use Rattle.psv0_layout.specs.Field.{mask_bytes_of}
use Rattle.psv0_layout.specs.Handed.{handed, runtime_record, resource_records, string_table, index_table, element_records, masks}
use Rattle.psv0_layout.specs.Judged.{opened}
use Rattle.psv0_layout.specs.Layout.{sections, guide_of, after2, after5}
use Rattle.psv0_writer_layout.specs.Written.{Given, resource_size_of}

-- "Plain form is PSV0 data that reader 3 accepts, with S equal to an edition's size, these record sizes, and nothing after the last
-- section": of edition e
pub record PlainForm (e : ℕ) (d : List ℕ) : Type 0 where
  pub edition : e ≤ 3
  pub accepted : opened 3 d ≡ Accepted
  pub size : u32_at d 0 ≡ size_of e
  pub resources : 0 < (sections d).resources.count → (sections d).resources.stride ≡ resource_size_of e
  pub elements : 1 ≤ e → 0 < (sections d).elements.count → (sections d).elements.stride ≡ 16
  pub none_after_head : e ≡ 0 → after2 d ≡ []
  pub none_after_masks : 1 ≤ e → drop (mask_bytes_of (guide_of d)) (after5 d) ≡ []

-- what a reading at edition read e hands out, as the writer takes it
unfoldable pub handed_out : ℕ → List ℕ → Given
handed_out e d =
    record {
      runtime = handed e d runtime_record;
      resources = handed e d resource_records;
      strings = handed e d string_table;
      indices = handed e d index_table;
      elements = handed e d element_records;
      masks = handed e d masks;
    }
