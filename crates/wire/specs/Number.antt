-- "All numbers are little-endian."
use Rattle.std.specs.Prelude.{List, [], ◌∷◌, ◌++◌, ℕ, ◌+◌, ◌*◌, ◌/◌, ◌%◌, ◌<◌, leb, length, get_or, take, drop}
use Rattle.wire.specs.Choice.{choose}

-- the number of the two bytes at a place; what is past the end counts as 0
unfoldable pub u16_at : List ℕ → ℕ → ℕ
u16_at b at = get_or b at 0 + 256 * get_or b (at + 1) 0

-- the number of the four bytes at a place; what is past the end counts as 0
unfoldable pub u32_at : List ℕ → ℕ → ℕ
u32_at b at = get_or b at 0 + 256 * get_or b (at + 1) 0 + 65536 * get_or b (at + 2) 0 + 16777216 * get_or b (at + 3) 0

-- the two bytes of a number, and the four
unfoldable pub le16 : ℕ → List ℕ
le16 n = n % 256 ∷ n / 256 % 256 ∷ []

unfoldable pub le32 : ℕ → List ℕ
le32 n = n % 256 ∷ n / 256 % 256 ∷ n / 256 / 256 % 256 ∷ n / 256 / 256 / 256 % 256 ∷ []

-- the list with v in the place of as many elements from a place on, where they fit; unchanged where they do not
unfoldable pub placed : List ℕ → ℕ → List ℕ → List ℕ
placed l at v = choose (leb (at + length v) (length l)) (take at l ++ (v ++ drop (at + length v) l)) l

-- every number of the list is a byte
pub record Bytes (l : List ℕ) : Type 0 where
  pub below : (i : ℕ) → get_or l i 0 < 256
