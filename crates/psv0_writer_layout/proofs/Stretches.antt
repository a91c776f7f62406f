-- What is written, stretch after stretch, and its length.
-- Assumes nothing.
use Prim.Native.Nat.{ℕ, ◌+◌, ◌%◌}
use mathlib.Core.Path.{◌≡◌, refl}
use mathlib.Core.Bool.{Bool, true, false}
use mathlib.Core.List.{List, [], append-nil}
use native.Mathlib.Omega.{arith}
use native.Mathlib.Nat.{mul-mod_left}
use lib.Dec.{leb, eqb}
use lib.ListN.{length, length-append}
use Rattle.wire.specs.Choice.{choose}
use Rattle.wire.specs.Number.{le32}
use Rattle.wire.proofs.Numbers.{le32_length}
use Rattle.psv0_layout.specs.Field.{element_total}
use Rattle.psv0_layout.specs.Laid.{head_laid, body_laid}
use Rattle.psv0_writer_layout.specs.Stretch.{size_field, size_field_length, head_bytes, body_bytes, head_length, body_length, written_bytes, written_length}
use Rattle.psv0_writer_layout.specs.Written.{Given, records_from, sections_from, written}
use Rattle.psv0_writer_layout.proofs.GivenRecords.{element_size, resource_size_lem, laid_from}
use Rattle.psv0_writer_layout.proofs.Lengths.{Lengths}

pub size_field_lem : (s : ℕ) (b : List ℕ) → length (size_field s b) ≡ size_field_length b
size_field_lem s b = go (eqb (length b) 0)
  where
    go : (t : Bool) → length (choose t [] (le32 s)) ≡ choose t 0 4
    go true = refl
    go false = le32_length s

-- how long the stretches of sections 1 and 2 are, before l, and those of sections 3 to 6
pub head_length_lem : (e : ℕ) (g : Given) (l : List ℕ) → length (head_bytes e g l) ≡ head_length g + length l
unfolding head_bytes head_length
head_length_lem e g l = simp (length-append, le32_length, size_field_lem) (omega arith)

pub body_length_lem : (g : Given) → length (body_bytes g) ≡ body_length g
unfolding body_bytes body_length
body_length_lem g = simp (length-append, le32_length, size_field_lem) (omega arith)

module _ (e : ℕ) (g : Given) (r : Lengths e g) where
  pub whole_elements : length g.elements % 16 ≡ 0
  whole_elements = rw r.elements (mul-mod_left (element_total g.runtime) 16)

  body_stretches : body_laid (sections_from e g) [] ≡ body_bytes g
  unfolding body_laid sections_from body_bytes
  body_stretches = simp (laid_from element_size g.elements whole_elements, append-nil)

  pub stretches_laid : written e g ≡ written_bytes e g
  unfolding written head_laid written_bytes head_bytes sections_from records_from
  stretches_laid = simp (laid_from (resource_size_lem e) g.resources r.resources, body_stretches)

  rest_length : length (choose (leb 1 e) (body_bytes g) []) ≡ choose (leb 1 e) (body_length g) 0
  rest_length = go (leb 1 e)
    where
      go : (t : Bool) → length (choose t (body_bytes g) []) ≡ choose t (body_length g) 0
      go true = body_length_lem g
      go false = refl

  pub length_laid : length (written e g) ≡ written_length e g
  unfolding written_length written_bytes
  length_laid = rw (stretches_laid, head_length_lem, rest_length)
