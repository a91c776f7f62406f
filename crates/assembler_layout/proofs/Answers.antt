-- What an answer tells of the verdict, and what the output then holds.
-- Assumes nothing.
use Rattle.std.specs.Prelude.{Result, Ok, Err}
use Prim.Native.Nat.{ℕ, ◌-◌, ◌≤◌}
use mathlib.Core.Path.{◌≡◌, ◌∙◌}
use mathlib.Core.List.{List, ◌++◌}
use native.Mathlib.Nat.{sub-zero}
use lib.ListN.{length, take, drop}
use lib.Seq.{length-take-le}
use Rattle.wire.specs.declared.Refusal.{Refusal}
use Rattle.wire.specs.Verdict.{Accepted}
use Rattle.wire.proofs.Verdicts.{check_then, refused_by, accepted_by, value_by}
use Rattle.assembler_layout.specs.Assembled.{Parts, file_length, parts_right, assembled, assembly_judged}
use Rattle.assembler_layout.proofs.Lengths.{accepted_told}
use Rattle.assembler_layout.proofs.Places.{assembled_length}
use Rattle.assembler_layout.specs.Answer.{answer, output, Passed}

module _ (g : Parts) (o : List ℕ) {a : Result ℕ Refusal} (h : a ≡ answer g (length o)) where
  pub kept : {x : Refusal} → a ≡ Err x → o ≡ output g o
  unfolding output
  kept e = rw (refused_by _ _ h e)

  module _ {len : ℕ} (e : a ≡ Ok len) where
    pub judged : assembly_judged g (length o) ≡ Accepted
    judged = accepted_by _ _ h e

    pub len_is : len ≡ file_length g
    len_is = value_by _ _ h e

    pub len_fits : len ≤ length o
    len_fits = let f = (accepted_told g (length o) judged).1 in rw len_is f

    pub passed_is : Passed g (length (take (len - 0) (drop 0 o)))
    unfolding assembly_judged
    passed_is =
        record {
          right = (check_then (parts_right g) _ _ _ judged).0;
          exact = rw sub-zero (length-take-le len o len_fits ∙ len_is);
          short = (accepted_told g (length o) judged).0.short;
        }

    pub written : {y : List ℕ} → y ≡ assembled g → take 0 o ++ (y ++ drop (len - 0) (drop 0 o)) ≡ output g o
    unfolding output
    written q =
        let l = assembled_length g (accepted_told g (length o) judged).0.right in
        rw (judged, q, sub-zero, len_is, ← l)
