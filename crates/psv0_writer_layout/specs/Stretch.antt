-- What is written, stretch after stretch, and how long it is, in the given lengths. proofs/Writing.antt joins this with `written`.
use Rattle.std.specs.Prelude.{List, [], ◌++◌, ℕ, ◌+◌, ◌/◌, leb, eqb, length}
use Rattle.wire.specs.Choice.{choose}
use Rattle.wire.specs.Number.{le32}
use Rattle.psv0_writer_layout.specs.Written.{Given, resource_size_of}

-- the bytes of a record size s before the records b: none where there are no records
abbrev pub size_field : ℕ → List ℕ → List ℕ
size_field s b = choose (eqb (length b) 0) [] (le32 s)

-- how many they are
abbrev pub size_field_length : List ℕ → ℕ
size_field_length b = choose (eqb (length b) 0) 0 4

-- sections 1 and 2, before l; and sections 3 to 6
unfoldable pub head_bytes : ℕ → Given → List ℕ → List ℕ
head_bytes e g l =
    le32 (length g.runtime)
    ++ (g.runtime
    ++ (le32 (length g.resources / resource_size_of e)
    ++ (size_field (resource_size_of e) g.resources
    ++ (g.resources
    ++ l))))

unfoldable pub body_bytes : Given → List ℕ
body_bytes g =
    le32 (length g.strings)
    ++ (g.strings
    ++ (le32 (length g.indices / 4)
    ++ (g.indices
    ++ (size_field 16 g.elements
    ++ (g.elements
    ++ g.masks)))))

-- how many bytes each has
unfoldable pub head_length : Given → ℕ
head_length g = 4 + length g.runtime + 4 + size_field_length g.resources + length g.resources

unfoldable pub body_length : Given → ℕ
body_length g =
    4 + length g.strings + 4 + length g.indices + size_field_length g.elements + length g.elements + length g.masks

-- all that is written
unfoldable pub written_bytes : ℕ → Given → List ℕ
written_bytes e g = head_bytes e g (choose (leb 1 e) (body_bytes g) [])

unfoldable pub written_length : ℕ → Given → ℕ
written_length e g = head_length g + choose (leb 1 e) (body_length g) 0
