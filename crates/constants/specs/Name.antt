-- The part names that are known.
use Rattle.std.specs.Prelude.{Bool, List, [], ◌∷◌, ℕ, ltb, eqb, get_or}
use Rattle.wire.specs.Number.{u32_at}
use Rattle.wire.specs.Search.{first}

-- "001 names 24 parts": DXIL HASH ILDB ILDN ISG1 ISGN OSG1 OSG5 OSGN PCSG PDBI PRIV PSG1 PSV0 RDAT RDEF RTS0 SFI0 SHDR
-- SHEX DXBC SRCI STAT VERS, as bytes
abbrev pub part_names : List (List ℕ)
part_names =
    (68 ∷ 88 ∷ 73 ∷ 76 ∷ [])
    ∷ (72 ∷ 65 ∷ 83 ∷ 72 ∷ [])
    ∷ (73 ∷ 76 ∷ 68 ∷ 66 ∷ [])
    ∷ (73 ∷ 76 ∷ 68 ∷ 78 ∷ [])
    ∷ (73 ∷ 83 ∷ 71 ∷ 49 ∷ [])
    ∷ (73 ∷ 83 ∷ 71 ∷ 78 ∷ [])
    ∷ (79 ∷ 83 ∷ 71 ∷ 49 ∷ [])
    ∷ (79 ∷ 83 ∷ 71 ∷ 53 ∷ [])
    ∷ (79 ∷ 83 ∷ 71 ∷ 78 ∷ [])
    ∷ (80 ∷ 67 ∷ 83 ∷ 71 ∷ [])
    ∷ (80 ∷ 68 ∷ 66 ∷ 73 ∷ [])
    ∷ (80 ∷ 82 ∷ 73 ∷ 86 ∷ [])
    ∷ (80 ∷ 83 ∷ 71 ∷ 49 ∷ [])
    ∷ (80 ∷ 83 ∷ 86 ∷ 48 ∷ [])
    ∷ (82 ∷ 68 ∷ 65 ∷ 84 ∷ [])
    ∷ (82 ∷ 68 ∷ 69 ∷ 70 ∷ [])
    ∷ (82 ∷ 84 ∷ 83 ∷ 48 ∷ [])
    ∷ (83 ∷ 70 ∷ 73 ∷ 48 ∷ [])
    ∷ (83 ∷ 72 ∷ 68 ∷ 82 ∷ [])
    ∷ (83 ∷ 72 ∷ 69 ∷ 88 ∷ [])
    ∷ (68 ∷ 88 ∷ 66 ∷ 67 ∷ [])
    ∷ (83 ∷ 82 ∷ 67 ∷ 73 ∷ [])
    ∷ (83 ∷ 84 ∷ 65 ∷ 84 ∷ [])
    ∷ (86 ∷ 69 ∷ 82 ∷ 83 ∷ [])
    ∷ []

-- the number of name k: its four bytes, little-endian
abbrev pub name_number : ℕ → ℕ
name_number k = u32_at (get_or part_names k []) 0

-- name k has the number x
abbrev pub is_name : ℕ → ℕ → Bool
is_name x k = eqb (name_number k) x

-- "marks each as known or unknown from that fixed list": the name with the number x is one of the 24
unfoldable pub is_known : ℕ → Bool
is_known x = ltb (first (is_name x) 24) 24
