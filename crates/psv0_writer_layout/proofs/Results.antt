-- What a call of the writer left in the output: its result, read back by reader 3, and beside and beyond it the bytes that were there.
-- Assumes nothing.
use Rattle.std.specs.Prelude.{Result, Ok, Err}
use Prim.Native.Nat.{ℕ}
use mathlib.Core.Path.{◌≡◌, sym, ◌∙◌}
use mathlib.Core.List.{List, ◌++◌}
use lib.ListN.{length, take, drop}
use lib.Seq.{take_at, drop_at}
use Rattle.wire.specs.declared.Refusal.{Refusal}
use Rattle.psv0_writer_layout.specs.Written.{Given, written}
use Rattle.psv0_writer_layout.proofs.RoundTrips.{ReadsBack, reads_back}
use Rattle.psv0_writer_layout.specs.Answer.{output, Wrote}
use Rattle.psv0_writer_layout.proofs.Checks.{kept, accepted, len_is}

module _ {e : ℕ} {g : Given} {o l : List ℕ} {r : Result ℕ Refusal} (w : Wrote e g o r l) where
  pub refused_keeps : {x : Refusal} → r ≡ Err x → l ≡ o
  refused_keeps q = w.left ∙ sym (kept e g o w.answered q)

  module _ {len : ℕ} (q : r ≡ Ok len) where
    whole : l ≡ written e g ++ drop len o
    unfolding output
    whole = w.left ∙ rw (accepted e g o w.answered q, len_is e g o w.answered q)

    pub result : take len l ≡ written e g
    result = rw whole (take_at (written e g) _ len (sym (len_is e g o w.answered q)))

    pub past_keeps : drop len l ≡ drop len o
    past_keeps = rw whole (drop_at (written e g) _ len (sym (len_is e g o w.answered q)))

    pub result_reads_back : ReadsBack e g
    result_reads_back = reads_back e g (length o) (accepted e g o w.answered q)
