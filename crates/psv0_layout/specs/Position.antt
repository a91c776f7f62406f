-- Where things stand in PSV0 data d, counted from its first byte: the positions that code works with.
use Rattle.std.specs.Prelude.{◌≡◌, ◌&&◌, not, List, [], ◌⊎◌, ℕ, zero, suc, ◌+◌, ◌-◌, ◌*◌, ◌≤◌, ◌<◌, leb, ltb, eqb, length, get_or}
use Rattle.wire.specs.Choice.{choose}
use Rattle.wire.specs.Number.{u32_at}
use Rattle.psv0_layout.specs.Field.{element_total, name_offset_of}
use Rattle.psv0_layout.specs.Layout.{guide_of, Body}
use Rattle.psv0_layout.specs.Reference.{string_good, index_total}

-- past a section that stands at a position: a count, 4 bytes, and u bytes for each
abbrev pub next_counted : ℕ → List ℕ → ℕ → ℕ
next_counted u d at = at + 4 + u32_at d at * u

-- past n records that stand at a position: with none, nothing; else their size, 4 bytes, and the records
unfoldable pub next_records : ℕ → List ℕ → ℕ → ℕ
next_records zero d at = at
next_records (suc n) d at = at + 4 + suc n * u32_at d at

-- of n records that start, with their size, at a position: the size, and the position of the first
unfoldable pub stride_at : ℕ → List ℕ → ℕ → ℕ
stride_at zero d at = 0
stride_at (suc n) d at = u32_at d at

unfoldable pub first_record : ℕ → ℕ → ℕ
first_record zero at = at
first_record (suc n) at = at + 4

-- where sections 2 to 6 start; section 1 starts at 0
module _ (d : List ℕ) where
  unfoldable pub resources_start : ℕ
  resources_start = next_counted 1 d 0

  unfoldable pub strings_start : ℕ
  strings_start = next_records (u32_at d resources_start) d (resources_start + 4)

  unfoldable pub indices_start : ℕ
  indices_start = next_counted 1 d strings_start

  unfoldable pub elements_start : ℕ
  elements_start = next_counted 4 d indices_start

  unfoldable pub masks_start : ℕ
  masks_start = next_records (element_total (guide_of d)) d elements_start

-- no zero byte of t stands from position i up to n
abbrev pub NoZero : List ℕ → ℕ → ℕ → Type 0
NoZero t i n = (j : ℕ) → i ≤ j → j < n → get_or t j 0 ≡ 0 → ⊥

-- m bytes of t go up to its last zero byte, that byte included; none where it has no zero byte
pub record UpToLastZero (t : List ℕ) (m : ℕ) : Type 0 where
  pub inside : m ≤ length t
  pub ends : (m ≡ 0) ⊎ (get_or t (m - 1) 0 ≡ 0)
  pub none : NoZero t m (length t)

-- every byte of t from position i on is below 0x80
abbrev pub PlainFrom : List ℕ → ℕ → Type 0
PlainFrom t i = (j : ℕ) → i ≤ j → j < length t → get_or t j 0 < 0x80

-- string references: the first number of each of some records, s bytes apart in e, and after these one that stands elsewhere
unfoldable pub reference_at : List ℕ → ℕ → ℕ → ℕ → ℕ → ℕ
reference_at e s count last i = choose (ltb i count) (u32_at e (i * s)) last

-- how many references n elements and, at edition read er, the entry name have
unfoldable pub reference_total : ℕ → ℕ → ℕ
reference_total er n = choose (leb 3 er) (n + 1) n

-- how the first n of some references are decided: up to the one numbered ill, each is good exactly when it lies before m and isn't that one
pub record Decided (t : List ℕ) (ref : ℕ → ℕ) (n m ill : ℕ) : Type 0 where
  pub told : (i : ℕ) → i < n → i ≤ ill → string_good t (ref i) ≡ (ltb (ref i) m && not (eqb i ill))

-- elements es whose names are decided so, with an index table of x numbers
pub record Judging (b : Body) (m ill x : ℕ) (es : List (List ℕ)) : Type 0 where
  pub names : Decided b.strings (λ i. name_offset_of (get_or es i [])) (length es) m ill
  pub indices : index_total b.indices ≡ x
  pub elements : b.elements ≡ es
