-- Well-formed UTF-8. Document 02, Ask 7: "well formed by the Unicode Standard's table of well-formed UTF-8 byte sequences", which is its table 3-7.
use Rattle.std.specs.Prelude.{Bool, true, false, ◌&&◌, List, [], ◌∷◌, ℕ, zero, suc, leb, length}
use Rattle.wire.specs.Choice.{choose}

infix 80 ◌to◌
-- a range of byte values, with both ends
pub data Range : Type 0 where
  ◌to◌ : ℕ → ℕ → Range

-- "Table 3-7. Well-Formed UTF-8 Byte Sequences": of each row the ranges of the first byte, the second, the third and the fourth. It leaves out
-- overlong forms and surrogates, and has noncharacters and U+FEFF
unfoldable pub table : List (List Range)
table =
    (0x00 to 0x7F ∷ [])
    ∷ (0xC2 to 0xDF ∷ 0x80 to 0xBF ∷ [])
    ∷ (0xE0 to 0xE0 ∷ 0xA0 to 0xBF ∷ 0x80 to 0xBF ∷ [])
    ∷ (0xE1 to 0xEC ∷ 0x80 to 0xBF ∷ 0x80 to 0xBF ∷ [])
    ∷ (0xED to 0xED ∷ 0x80 to 0x9F ∷ 0x80 to 0xBF ∷ [])
    ∷ (0xEE to 0xEF ∷ 0x80 to 0xBF ∷ 0x80 to 0xBF ∷ [])
    ∷ (0xF0 to 0xF0 ∷ 0x90 to 0xBF ∷ 0x80 to 0xBF ∷ 0x80 to 0xBF ∷ [])
    ∷ (0xF1 to 0xF3 ∷ 0x80 to 0xBF ∷ 0x80 to 0xBF ∷ 0x80 to 0xBF ∷ [])
    ∷ (0xF4 to 0xF4 ∷ 0x80 to 0x8F ∷ 0x80 to 0xBF ∷ 0x80 to 0xBF ∷ [])
    ∷ []

abbrev pub within : ℕ → ℕ → ℕ → Bool
within lo hi x = leb lo x && leb x hi

-- a list starts with a byte in each of the ranges
unfoldable pub fits : List Range → List ℕ → Bool
fits [] l = true
fits (r ∷ rs) [] = false
fits (lo to hi ∷ rs) (x ∷ l) = within lo hi x && fits rs l

-- the length of the sequence that a list starts with, by some rows: that of the first that it fits, 0 where there is none
unfoldable pub front : List (List Range) → List ℕ → ℕ
front [] l = 0
front (r ∷ rows) l = choose (fits r l) (length r) (front rows l)

-- how many sequences a list is made of, or that it isn't made of sequences
pub data Count : Type 0 where
  sequences : ℕ → Count
  broken : Count

-- one sequence more
unfoldable pub more : Count → Count
more (sequences n) = sequences (suc n)
more broken = broken

-- a sequence of a length, 0 for none, and what follows it: f gives the count of the bytes past its first, with so many of them skipped
unfoldable pub after : ℕ → (ℕ → Count) → Count
after zero f = broken
after (suc k) f = more (f k)

-- the count of a list with its first k bytes skipped
unfoldable pub counted : List ℕ → ℕ → Count
counted [] k = sequences 0
counted (x ∷ l) (suc k) = counted l k
counted (x ∷ l) zero = after (front table (x ∷ l)) (λ k. counted l k)

abbrev pub is_whole : Count → Bool
is_whole (sequences n) = true
is_whole broken = false

abbrev pub number_in : Count → ℕ
number_in (sequences n) = n
number_in broken = 0

-- a string is well formed when it is a row of such sequences
unfoldable pub well_formed : List ℕ → Bool
well_formed l = is_whole (counted l 0)

-- "how many code points there are": the number of its sequences. A string that isn't well formed has none
unfoldable pub code_points : List ℕ → ℕ
code_points l = number_in (counted l 0)
