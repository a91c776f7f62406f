-- What a call of the writer left in the output: its result, read back, and beside and beyond it the bytes that were there.
-- Assumes nothing.
use Prim.Native.Nat.{ℕ}
use mathlib.Core.Path.{◌≡◌, sym, ◌∙◌}
use mathlib.Core.List.{List, ◌++◌}
use lib.ListN.{length, take, drop}
use lib.Seq.{take_at, drop_at}
use Rattle.wire.specs.Verdict.{Accepted}
use Rattle.std.specs.Prelude.{Result, Ok, Err}
use Rattle.wire.specs.declared.Refusal.{Refusal}
use Rattle.settings_layout.specs.File.{judged, rows_of}
use Rattle.settings_layout.specs.Given.{numbers_of, written, output_if, Wrote}
use Rattle.settings_layout.proofs.GivenRows.{given_back}
use Rattle.settings_writer.proofs.Writes.{kept, accepted, len_is}

module _ {g o l : List ℕ} {r : Result ℕ Refusal} (w : Wrote g o r l) where
  pub refused_keeps : {f : Refusal} → r ≡ Err f → l ≡ o
  refused_keeps q = w.left ∙ sym (kept g o w.answered q)

  module _ {n : ℕ} (a : r ≡ Ok n) where
    whole : l ≡ written g ++ drop n o
    unfolding output_if
    whole = w.left ∙ rw (accepted g o w.answered a, (len_is g o w.answered a))

    pub result : take n l ≡ written g
    result = rw whole (take_at (written g) (drop n o) n (len_is g o w.answered a))

    pub past_keeps : drop n l ≡ drop n o
    past_keeps = rw whole (drop_at (written g) (drop n o) n (len_is g o w.answered a))

    -- "What the writer accepts reads back as given"
    pub result_reads_back : (judged (take n l) ≡ Accepted) × (numbers_of (rows_of (take n l)) ≡ g)
    result_reads_back = rw result (given_back g (length o) (accepted g o w.answered a))
