-- Demand 2, the PSV0 writer: what it accepts reads back as it was given, and plain data are written again as they were.
-- Assumes nothing.
use Prim.Native.Nat.{ℕ, ◌≤◌}
use mathlib.Core.Path.{◌≡◌}
use mathlib.Core.Bool.{true}
use mathlib.Core.List.{List}
use lib.Dec.{leb}
use lib.ListN.{length}
use borrow.Author.Tests.{le-leb}
use Rattle.wire.specs.Number.{Bytes}
use Rattle.wire.specs.Verdict.{Accepted}
use Rattle.wire.proofs.Verdicts.{checked, accepted_then}
use Rattle.psv0_layout.specs.Judged.{opened}
use Rattle.psv0_layout.specs.Layout.{seen, edition_read_of}
use Rattle.psv0_layout.specs.Shown.{Question, needs, value, set_if, shown_at, answered}
use Rattle.psv0_writer_layout.specs.Plain.{PlainForm, handed_out}
use Rattle.psv0_writer_layout.specs.Written.{Given, sections_from, lengths_right, written, writer_judged}
use Rattle.psv0_writer_layout.proofs.HandedOut.{plain_edition, plain_short, plain_lengths, plain_again}
use Rattle.psv0_writer_layout.proofs.Lengths.{lengths_right_lem}
use Rattle.psv0_writer_layout.proofs.WrittenPlain.{passed, handed_back, written_plain}
use Rattle.psv0_writer_layout.proofs.WrittenSections.{edition_again, size_back, sections_back}

-- "What the writer accepts reads back as it was given." "Demand 2 reads back by reader 3." `handed_out` is every section's bytes;
-- `answered` is what a reader's queries show: of each question that edition e has an answer to, the value of the given sections.
pub record ReadsBack (e : ℕ) (g : Given) : Type 0 where
  pub accepted : opened 3 (written e g) ≡ Accepted
  pub edition : edition_read_of 3 (written e g) ≡ e
  pub bytes : handed_out e (written e g) ≡ g
  pub shows : (q : Question) → answered 3 (written e g) q ≡ set_if (leb (needs q) e) (value q (seen (needs q) (sections_from e g)))

pub reads_back : (e : ℕ) (g : Given) (room : ℕ) → writer_judged e g room ≡ Accepted → ReadsBack e g
unfolding answered shown_at
reads_back e g room a =
    let p = passed e g room a in
    let er : edition_read_of 3 (written e g) ≡ e = edition_again e _ p.few (size_back e g p.lengths p.short) in
    record {
      accepted = p.accepted;
      edition = er;
      bytes = handed_back e g p;
      shows = λ q. rw (p.accepted, er, sections_back e g p.lengths p.short);
    }

-- "a PSV0 part in plain form, read and written again, gives the same bytes": what reader 3 hands out of d, the writer accepts, given
-- the room, and its result is d.
pub record WrittenAgain (e : ℕ) (d : List ℕ) : Type 0 where
  pub edition : edition_read_of 3 d ≡ e
  pub lengths : lengths_right e (handed_out e d) ≡ true
  pub accepted : (room : ℕ) → length d ≤ room → writer_judged e (handed_out e d) room ≡ Accepted
  pub same : written e (handed_out e d) ≡ d

pub written_again : (e : ℕ) (d : List ℕ) → PlainForm e d → Bytes d → WrittenAgain e d
unfolding writer_judged
written_again e d p b =
    let right : lengths_right e (handed_out e d) ≡ true = lengths_right_lem e _ (plain_lengths e d p) in
    let same : written e (handed_out e d) ≡ d = plain_again e d p b in
    record {
      edition = plain_edition e d p;
      lengths = right;
      accepted = λ room h.
          rw same
          (accepted_then _ _ (checked _ 25 0 (le-leb _ _ p.edition))
          (accepted_then _ _ (checked _ 27 0 right)
          (accepted_then _ _ (checked _ 2 0 (le-leb _ _ (plain_short e d p)))
          (accepted_then _ _ p.accepted (checked _ 28 0 (le-leb _ _ h))))));
      same = same;
    }

-- what the writer writes is in plain form
pub plain_written : (e : ℕ) (g : Given) (room : ℕ) → writer_judged e g room ≡ Accepted → PlainForm e (written e g)
plain_written e g room a = written_plain e g (passed e g room a)
