-- String and index references: what makes one good, and what it refers to. Each rule stands here and nowhere else.
use Rattle.std.specs.Prelude.{Bool, true, false, ◌&&◌, List, [], ◌∷◌, ℕ, zero, suc, ◌+◌, ◌*◌, ◌/◌, ltb, leb, length, take, drop}
use Rattle.utf8_layout.specs.Sequence.{well_formed}

-- a zero byte stands in the list
unfoldable pub has_zero : List ℕ → Bool
has_zero [] = false
has_zero (zero ∷ l) = true
has_zero (suc x ∷ l) = has_zero l

-- the bytes before the first zero
unfoldable pub until_zero : List ℕ → List ℕ
until_zero [] = []
until_zero (zero ∷ l) = []
until_zero (suc x ∷ l) = suc x ∷ until_zero l

-- "o < T and a zero byte stands at o or later inside the table"; t is the string table
unfoldable pub string_ends : List ℕ → ℕ → Bool
string_ends t o = ltb o (length t) && has_zero (drop o t)

-- "the string ends before the first such zero"
unfoldable pub string_at : List ℕ → ℕ → List ℕ
string_at t o = until_zero (drop o t)

-- "A string reference o is good when" the string at o ends inside the table; document 02, Ask 7: "now .. only when the bytes before its zero are well
-- formed". No other bytes of the table are judged
unfoldable pub string_good : List ℕ → ℕ → Bool
string_good t o = string_ends t o && well_formed (string_at t o)

-- N, how many numbers the index table x has
abbrev pub index_total : List ℕ → ℕ
index_total x = length x / 4

-- document 02, Ask 2: "the element's rows field is the count and the reference points at the first index. So: good when i plus rows is
-- at most N". For r rows; "rows 0 gives an empty array and i may equal N"
unfoldable pub index_good : List ℕ → ℕ → ℕ → Bool
index_good x i r = leb (i + r) (index_total x)

-- the array: r numbers from i on, as bytes
unfoldable pub array_at : List ℕ → ℕ → ℕ → List ℕ
array_at x i r = take (r * 4) (drop (i * 4) x)
