-- Fields of the runtime record r, and the masks' sizes, which follow from them; and the fields of an element record that checks go by.
use Rattle.std.specs.Prelude.{Bool, ◌&&◌, ◌||◌, List, [], ◌∷◌, ℕ, ◌+◌, ◌*◌, ◌/◌, eqb, get_or}
use Rattle.wire.specs.Choice.{choose}
use Rattle.wire.specs.Number.{u16_at, u32_at}

-- "Edition 1: 24 stage, 25 UsesViewID, 26 union, 28 to 30 input, output, patch/primitive element counts, 31 input vectors, 32 to 35
-- output vectors of streams 0 to 3"
abbrev pub stage : List ℕ → ℕ
stage r = get_or r 24 0

abbrev pub uses_view_id_of : List ℕ → ℕ
uses_view_id_of r = get_or r 25 0

-- "E, the sum of the three element counts"
abbrev pub element_total : List ℕ → ℕ
element_total r = get_or r 28 0 + get_or r 29 0 + get_or r 30 0

abbrev pub input_vectors_of : List ℕ → ℕ
input_vectors_of r = get_or r 31 0

abbrev pub output_vectors : List ℕ → ℕ → ℕ
output_vectors r i = get_or r (32 + i) 0

-- "At 26: MaxVertexCount (2 bytes) when the stage is 2; patch/primitive vectors (1 byte) when it is 3, 4 or 13, and at 27 the mesh
-- topology when it is 13": the number that stands there, and the stages s that have it
abbrev pub vertex_count : List ℕ → ℕ
vertex_count r = u16_at r 26

abbrev pub vertex_stage : ℕ → Bool
vertex_stage s = eqb s 2

abbrev pub patch_byte : List ℕ → ℕ
patch_byte r = get_or r 26 0

abbrev pub patch_stage : ℕ → Bool
patch_stage s = eqb s 3 || eqb s 4 || eqb s 13

abbrev pub topology : List ℕ → ℕ
topology r = get_or r 27 0

abbrev pub mesh_stage : ℕ → Bool
mesh_stage s = eqb s 13

-- "Edition 2: 36, 40, 44 thread counts X, Y, Z." "Thread counts are set only for stages 5, 13, 14"
abbrev pub thread_count : ℕ → List ℕ → ℕ
thread_count i r = u32_at r (36 + i * 4)

abbrev pub thread_stage : ℕ → Bool
thread_stage s = eqb s 5 || eqb s 13 || eqb s 14

abbrev pub has_patch_vectors : List ℕ → Bool
has_patch_vectors r = patch_stage (stage r)

-- "p = patch/primitive vectors (0 where unset)"
abbrev pub patch_vectors_of : List ℕ → ℕ
patch_vectors_of r = choose (has_patch_vectors r) (patch_byte r) 0

abbrev pub has_threads : List ℕ → Bool
has_threads r = thread_stage (stage r)

-- "w(v) = (v + 7) div 8"
abbrev pub words : ℕ → ℕ
words v = (v + 7) / 8

-- a number of words where the test is true, else none
abbrev pub words_if : Bool → ℕ → ℕ
words_if t n = choose t n 0

-- masks 0 to 10 in words. "UsesViewID 1: w(v0), w(v1), w(v2), w(v3); then w(p) when the stage is 3 or 13. Then for each stream
-- w(vi) x u x 4; then w(p) x u x 4 when the stage is 3; then w(v0) x p x 4 when it is 4."
unfoldable pub mask_words_of : List ℕ → List ℕ
mask_words_of r =
    let view = eqb (uses_view_id_of r) 1 in
    let u = input_vectors_of r in
    let v = output_vectors r in
    let p = patch_vectors_of r in
    words_if view (words (v 0))
    ∷ words_if view (words (v 1))
    ∷ words_if view (words (v 2))
    ∷ words_if view (words (v 3))
    ∷ words_if (view && (eqb (stage r) 3 || eqb (stage r) 13)) (words p)
    ∷ words (v 0) * u * 4
    ∷ words (v 1) * u * 4
    ∷ words (v 2) * u * 4
    ∷ words (v 3) * u * 4
    ∷ words_if (eqb (stage r) 3) (words p * u * 4)
    ∷ words_if (eqb (stage r) 4) (words (v 0) * p * 4)
    ∷ []

unfoldable pub sum : List ℕ → ℕ
sum [] = 0
sum (x ∷ xs) = x + sum xs

-- "Masks in 4-byte words"
abbrev pub mask_bytes_of : List ℕ → ℕ
mask_bytes_of r = sum (mask_words_of r) * 4

-- "Element record: name offset (4), index reference (4), rows, .."; e is the record
abbrev pub name_offset_of : List ℕ → ℕ
name_offset_of e = u32_at e 0

abbrev pub index_reference_of : List ℕ → ℕ
index_reference_of e = u32_at e 4

abbrev pub row_count : List ℕ → ℕ
row_count e = get_or e 8 0
