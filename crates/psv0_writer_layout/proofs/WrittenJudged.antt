-- What reader 3 says of what is written: its sections fit, and the rest is judged of what was given.
-- Assumes nothing.
use Prim.Native.Nat.{ℕ, ◌≤◌}
use mathlib.Core.Path.{◌≡◌, ◌∙◌}
use mathlib.Core.List.{[]}
use native.Mathlib.Omega.{arith}
use lib.ListN.{length}
use borrow.Author.Tests.{le-leb}
use Rattle.wire.specs.Number.{u32_at}
use Rattle.wire.specs.Verdict.{◌then◌, check, when, from}
use Rattle.wire.proofs.Numbers.{u32_take}
use Rattle.psv0_layout.specs.Judged.{fields_judged, entry_judged, judged_at, opened}
use Rattle.psv0_layout.specs.Laid.{head_laid, body_laid}
use Rattle.psv0_layout.specs.Layout.{body_of, seen, edition_read_of}
use Rattle.psv0_layout.specs.Reference.{string_good}
use Rattle.psv0_layout.proofs.Layouts.{head_accepted, judged_laid}
use Rattle.psv0_writer_layout.specs.Checked.{body_from, given_judged}
use Rattle.psv0_writer_layout.specs.Written.{Given, sections_from, written}
use Rattle.psv0_writer_layout.proofs.GivenRecords.{element_size, rows_from_lem}
use Rattle.psv0_writer_layout.proofs.Lengths.{Lengths}
use Rattle.psv0_writer_layout.proofs.Runtime.{fields_kept}
use Rattle.psv0_writer_layout.proofs.WrittenSections.{by_edition, edition_again, written_0, written_1, whole_head, whole_body, size_back}

-- ---- what a reading looks at
module _ (e : ℕ) (g : Given) where
  fields_given : fields_judged (seen 1 (sections_from e g)).runtime ≡ fields_judged g.runtime
  unfolding seen sections_from
  fields_given = fields_kept g.runtime

  body_given_lem : (seen 1 (sections_from e g)).body ≡ body_from g
  unfolding seen sections_from body_of body_from
  body_given_lem =
      λ i.
      record {
        strings = g.strings;
        indices = g.indices;
        elements = rows_from_lem element_size g.elements i;
        masks = g.masks;
      }

  entry_given : entry_judged (seen 3 (sections_from e g)) ≡ check (string_good g.strings (u32_at g.runtime 48)) 24 0
  unfolding entry_judged seen sections_from body_of
  entry_given = rw (u32_take 52 g.runtime 48 (omega arith))

-- ---- and says of it
module _ (e : ℕ) (g : Given) (r : Lengths e g) (short : length (written e g) ≤ 16777216) where
  judged_0 : e ≡ 0 → judged_at e (head_laid (sections_from e g) []) ≡ given_judged e g
  unfolding judged_at given_judged from when ◌then◌
  judged_0 z = rw (head_accepted (sections_from e g) [] (whole_head e g r short), z)

  judged_1 : 1 ≤ e → judged_at e (head_laid (sections_from e g) (body_laid (sections_from e g) [])) ≡ given_judged e g
  unfolding given_judged
  judged_1 h =
      judged_laid (sections_from e g) [] (whole_head e g r short) (whole_body e g r short h) e
      ∙ rw (fields_given e g, body_given_lem e g, entry_given e g)

  judged_written : judged_at e (written e g) ≡ given_judged e g
  judged_written = by_edition e (λ z. rw (written_0 e g z) (judged_0 z)) (λ h. rw (written_1 e g h) (judged_1 h))

  pub opened_given : e ≤ 3 → opened 3 (written e g) ≡ given_judged e g
  unfolding opened ◌then◌ check
  opened_given few =
      let er : edition_read_of 3 (written e g) ≡ e = edition_again e (written e g) few (size_back e g r short) in
      rw er (simp (le-leb _ _ short) judged_written)
