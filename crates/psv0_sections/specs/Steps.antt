-- What the steps of the walk over PSV0 data answer.
use Rattle.std.specs.Prelude.{◌≡◌, List, ℕ, ◌%◌, ◌≤◌, ◌<◌, leb, Option, Some, None, Result, length, drop}
use Rattle.constants.specs.Edition.{size_of}
use Rattle.wire.specs.Choice.{choose}
use Rattle.wire.specs.Number.{u32_at}
use Rattle.wire.specs.Verdict.{under, Accepted}
use Rattle.wire.specs.declared.Refusal.{Refusal}
use Rattle.psv0_layout.specs.Field.{element_total, mask_bytes_of}
use Rattle.psv0_layout.specs.Judged.{head_judged, body_fits}
use Rattle.psv0_layout.specs.Layout.{records_fit, guide_of, after2}
use Rattle.psv0_layout.specs.Position.{stride_at, first_record, resources_start, strings_start, next_records}
use Rattle.psv0_sections.specs.Places.{head_places, body_places}
use Rattle.psv0_sections.specs.declared.Cursor.{Cursor}
use Rattle.psv0_sections.specs.declared.Places.{Places}
use Rattle.psv0_sections.specs.declared.Table.{Table}

-- the next position, where the data reach it
unfoldable pub reach : List ℕ → ℕ → Option Cursor
reach d next = choose (leb next (length d)) (Some (record { at = next })) None

-- the same with a number
unfoldable pub step_to : List ℕ → ℕ → ℕ → Option (ℕ × Cursor)
step_to d n next = choose (leb next (length d)) (Some (n, record { at = next })) None

-- its number is one of four bytes
abbrev pub SmallStep : Option (ℕ × Cursor) → Type 0
SmallStep (Some s) = s.0 < 4294967296
SmallStep None = Unit {0}

-- n records that start, with their size, at a position
unfoldable pub table_at : ℕ → List ℕ → ℕ → Option Table
table_at n d at =
    choose (records_fit n (drop at d))
    (Some (record { first = first_record n at; stride = stride_at n d at; next = record { at = next_records n d at } }))
    None

-- sections 1 and 2, and sections 3 to 6: the places that a verdict lets be known
unfoldable pub head_of : List ℕ → Result (Places × Cursor) Refusal
head_of d = under (head_judged d) (head_places d, record { at = strings_start d })

unfoldable pub rest_of : ℕ → List ℕ → Result Places Refusal
rest_of er d = under (body_fits (after2 d) (element_total (guide_of d)) (mask_bytes_of (guide_of d))) (body_places er d)

-- the runtime record is there, with S and the position past it: 12 and 13 are passed
pub record RuntimeRead (d : List ℕ) (s : ℕ) (c : Cursor) : Type 0 where
  pub long : 4 ≤ length d
  pub size : s ≡ u32_at d 0
  pub four : s % 4 ≡ 0
  pub least : 24 ≤ s
  pub next : c.at ≡ resources_start d
  pub inside : resources_start d ≤ length d

-- sections 1 and 2 are accepted, with their places and the position past them, and the edition read has the later ones
pub record HeadRead (er : ℕ) (d : List ℕ) (p : Places) (c : Cursor) : Type 0 where
  pub judged : head_judged d ≡ Accepted
  pub places : p ≡ head_places d
  pub next : c.at ≡ strings_start d
  pub edition : size_of er ≤ u32_at d 0
  pub later : 1 ≤ er

-- what sections 3 to 6 go by: e elements and m bytes of masks
pub record BodyAsked (er : ℕ) (d : List ℕ) (p : Places) (c : Cursor) (e m : ℕ) : Type 0 where
  pub head : HeadRead er d p c
  pub elements : e ≡ element_total (guide_of d)
  pub few : e ≤ 765
  pub masks : m ≡ mask_bytes_of (guide_of d)
