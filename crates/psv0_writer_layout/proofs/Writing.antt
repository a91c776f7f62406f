-- What the writer writes and refuses, of what it is given alone.
-- Assumes nothing.
use Prim.Native.Nat.{ℕ, ◌≤◌}
use mathlib.Core.Path.{◌≡◌, refl}
use mathlib.Core.Bool.{Bool, true, false}
use lib.Dec.{leb}
use lib.ListN.{length}
use borrow.Author.Tests.{leb-true}
use Rattle.constants.specs.Edition.{size_of}
use Rattle.wire.specs.Number.{u32_at}
use Rattle.wire.specs.Verdict.{◌then◌, check, Verdict}
use Rattle.psv0_layout.specs.Judged.{opened}
use Rattle.psv0_layout.specs.Layout.{sections, edition_read_of}
use Rattle.psv0_writer_layout.specs.Checked.{given_judged}
use Rattle.psv0_writer_layout.specs.Stretch.{written_bytes, written_length}
use Rattle.psv0_writer_layout.specs.Written.{Given, sections_from, lengths_right, written, writer_judged}
use Rattle.psv0_writer_layout.proofs.Lengths.{lengths_told}
use Rattle.psv0_writer_layout.proofs.Stretches.{stretches_laid, length_laid}
use Rattle.psv0_writer_layout.proofs.WrittenJudged.{opened_given}
use Rattle.psv0_writer_layout.proofs.WrittenSections.{edition_again, size_back, sections_back}

module _ (e : ℕ) (g : Given) (right : lengths_right e g ≡ true) where
  -- "it fills each section's own stretch of the output": the stretches, and how long they are together
  pub written_stretches : written e g ≡ written_bytes e g
  written_stretches = stretches_laid e g (lengths_told e g right)

  pub written_length_lem : length (written e g) ≡ written_length e g
  written_length_lem = length_laid e g (lengths_told e g right)

  module _ (short : length (written e g) ≤ 16777216) where
    -- S is the edition's size, and the sections that are read are those given
    pub written_size : u32_at (written e g) 0 ≡ size_of e
    written_size = size_back e g (lengths_told e g right) short

    pub written_edition : e ≤ 3 → edition_read_of 3 (written e g) ≡ e
    written_edition few = edition_again e (written e g) few written_size

    pub written_sections : sections (written e g) ≡ sections_from e g
    written_sections = sections_back e g (lengths_told e g right) short

    -- "15 to 24 as reader 3 would answer": it gives none of 12 to 14 and 18 to 21, and the others of what is given
    pub opened_written : e ≤ 3 → opened 3 (written e g) ≡ given_judged e g
    opened_written few = opened_given e g (lengths_told e g right) short few

checked_same : (t : Bool) (n p : ℕ) {v w : Verdict} → (t ≡ true → v ≡ w) → (check t n p then v) ≡ (check t n p then w)
unfolding check ◌then◌
checked_same true n p h = h refl
checked_same false n p h = refl

-- "Order: 25; 27; 2, when the result would be too long; 15 to 24 as reader 3 would answer; 28", before a byte is written
pub writer_refusals : (e : ℕ) (g : Given) (room : ℕ)
    → writer_judged e g room
    ≡ (check (leb e 3) 25 0
    then check (lengths_right e g) 27 0
    then check (leb (written_length e g) 16777216) 2 0
    then given_judged e g
    then check (leb (written_length e g) room) 28 0)
unfolding writer_judged
writer_refusals e g room =
    checked_same (leb e 3) 25 0
    (λ c25.
    checked_same (lengths_right e g) 27 0
    (λ c27.
    let size = written_length_lem e g c27 in
    rw size
    (checked_same (leb (written_length e g) 16777216) 2 0
    (λ c2. rw (opened_written e g c27 (rw size (leb-true _ _ c2)) (leb-true _ _ c25))))))
