-- The bytes that a reading hands out for writing again: "the bytes of the runtime record up to the edition read, and of each section
-- after its counts and sizes (no bytes for a section that is unset)".
use Rattle.std.specs.Prelude.{List, [], ℕ, leb, take}
use Rattle.constants.specs.Edition.{size_of}
use Rattle.wire.specs.Choice.{choose}
use Rattle.psv0_layout.specs.Layout.{sections}

-- the six sections
pub data Section : Type 0 where
  runtime_record resource_records string_table index_table element_records masks : Section

-- a section that is unset in edition read 0
abbrev pub from_one : ℕ → List ℕ → List ℕ
from_one er l = choose (leb 1 er) l []

unfoldable pub handed : ℕ → List ℕ → Section → List ℕ
handed er d runtime_record = take (size_of er) (sections d).runtime
handed er d resource_records = (sections d).resources.bytes
handed er d string_table = from_one er (sections d).strings
handed er d index_table = from_one er (sections d).indices
handed er d element_records = from_one er (sections d).elements.bytes
handed er d masks = from_one er (sections d).masks
