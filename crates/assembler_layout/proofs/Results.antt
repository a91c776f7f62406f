-- "What the writer accepts reads back as it was given": the bytes that an accepted assembly writes, by the table reader.
-- "bytes past a writer's result keep their contents". "When a writer refuses, the output buffer keeps every byte."
-- Assumes nothing.
use Rattle.std.specs.Prelude.{Ok, Err}
use Prim.Native.Nat.{ℕ, ◌≤◌}
use mathlib.Core.Path.{◌≡◌, refl, sym, ◌∙◌}
use mathlib.Core.List.{List, ◌++◌}
use native.Mathlib.Omega.{arith}
use lib.ListN.{length, take, drop, length-append, length-drop}
use lib.Seq.{take_at, drop_at}
use Rattle.wire.specs.declared.Refusal.{Refusal}
use Rattle.wire.specs.Verdict.{Verdict, Accepted, Refused}
use Rattle.assembler_layout.specs.Assembled.{Parts, assembled, assembly_judged}
use Rattle.assembler_layout.proofs.Lengths.{accepted_told}
use Rattle.assembler_layout.proofs.Places.{assembled_length}
use Rattle.assembler_layout.proofs.RoundTrip.{ReadsBack, round_trip}
use Rattle.assembler_layout.specs.Answer.{answer, output_if, output}
use Rattle.assembler_layout.proofs.Answers.{judged, kept, len_is}

module _ (g : Parts) (o : List ℕ) where
  module _ {len : ℕ} (h : answer g (length o) ≡ Ok len) where
    whole : length (assembled g) ≡ len
    whole = assembled_length g (accepted_told g (length o) (judged g o refl h)).0.right ∙ sym (len_is g o refl h)

    holds : output g o ≡ assembled g ++ drop (length (assembled g)) o
    unfolding output
    holds = rw (judged g o refl h)

    result : take len (output g o) ≡ assembled g
    result = rw holds (take_at (assembled g) (drop (length (assembled g)) o) len whole)

    pub reads_back : ReadsBack g (take len (output g o))
    reads_back = rw result (round_trip g (length o) (judged g o refl h))

    pub past_kept : drop len (output g o) ≡ drop len o
    past_kept = rw holds (drop_at (assembled g) (drop (length (assembled g)) o) len whole ∙ rw whole)

  pub refused_kept : {x : Refusal} → answer g (length o) ≡ Err x → output g o ≡ o
  refused_kept h = sym (kept g o refl h)

  length_if_lem : (v : Verdict) → (v ≡ Accepted → length (assembled g) ≤ length o) → length (output_if v g o) ≡ length o
  length_if_lem Accepted f = let l = f refl in simp (length-append, length-drop) (omega arith)
  length_if_lem (Refused n p) f = refl

  pub output_length : length (output g o) ≡ length o
  unfolding output
  output_length =
      length_if_lem (assembly_judged g (length o))
      (λ h. let t = accepted_told g (length o) h in let l = assembled_length g t.0.right in let f = t.1 in omega arith)
