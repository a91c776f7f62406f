-- What a call of the writer leaves in the output.
-- Assumes nothing.
use Prim.Native.Nat.{ℕ, ◌+◌, ◌/◌, ◌≤◌}
use mathlib.Core.Path.{◌≡◌, sym, ◌∙◌, ap}
use mathlib.Core.List.{List, ◌++◌}
use native.Mathlib.Omega.{arith}
use lib.ListN.{length, length-append}
use lib.Seq.{sets, length-sets}
use borrow.Author.Tests.{leb-true, eqb-true}
use Rattle.std.specs.Prelude.{Result, Ok, Err}
use Rattle.wire.specs.Verdict.{under, Accepted}
use Rattle.wire.specs.declared.Refusal.{Refusal}
use Rattle.wire.proofs.Verdicts.{then_accepted, check_then, check_accepted, refused_by, accepted_by, value_by}
use Rattle.settings_layout.specs.Groups.{groups, in_groups}
use Rattle.settings_layout.specs.Laid.{laid}
use Rattle.settings_layout.specs.Given.{rows_given, written, writer_judged, output_if}
use Rattle.settings_layout.specs.Checked.{numbers_laid}
use Rattle.settings_layout.proofs.GivenNumbers.{rows_flat, rows_count}
use Rattle.settings_layout.proofs.GivenRows.{laid_told}
use Rattle.settings_writer.proofs.Puts.{all_put}

module _ (g o : List ℕ) {r : Result ℕ Refusal} (e : r ≡ under (writer_judged g (length o)) (length (written g))) where
  -- a refusal leaves the output
  pub kept : {f : Refusal} → r ≡ Err f → o ≡ output_if (writer_judged g (length o)) (written g) o
  unfolding output_if
  kept q = rw (refused_by _ _ e q)

  pub record Passed : Type 0 where
    pub few : length g / 3 ≤ 512
    pub form : written g ≡ groups 4 (length g / 3) ++ numbers_laid g
    pub fits : length (groups 4 (length g / 3)) + length (numbers_laid g) ≤ length o

  module _ {n : ℕ} (q : r ≡ Ok n) where
    pub accepted : writer_judged g (length o) ≡ Accepted
    accepted = accepted_by _ _ e q

    pub len_is : length (written g) ≡ n
    len_is = sym (value_by _ _ e q)

    pub passed : Passed
    unfolding writer_judged written laid in_groups
    passed =
        let a = check_then _ 27 0 _ accepted in
        let b = then_accepted _ _ a.1 in
        let t = laid_told (rows_given g) b.0 in
        let form : written g ≡ groups 4 (length g / 3) ++ numbers_laid g = rw (rows_count g, rows_flat g (eqb-true _ _ a.0)) in
        let l : length (written g) ≤ length o = leb-true _ _ (check_accepted _ 28 0 b.1) in
        let m : length (written g) ≡ length (groups 4 (length g / 3)) + length (numbers_laid g) = ap length form ∙ length-append (groups 4 (length g / 3)) (numbers_laid g) in
        record { few = omega (arith, rw (rows_count g) at t.few); form = form; fits = omega arith }

    pub room_left : {at : ℕ} {x : List ℕ} → at ≡ 0 + length (groups 4 (length g / 3)) → x ≡ sets o 0 (groups 4 (length g / 3)) → at + length (numbers_laid g) ≤ length x
    room_left {at} {x} h k =
        let s : length x ≡ length o = ap length k ∙ length-sets o 0 (groups 4 (length g / 3)) in
        omega (arith, passed.fits)

    pub filled : {at : ℕ} {x y : List ℕ} → at ≡ 0 + length (groups 4 (length g / 3)) → x ≡ sets o 0 (groups 4 (length g / 3)) → y ≡ sets x at (numbers_laid g)
        → y ≡ output_if (writer_judged g (length o)) (written g) o
    unfolding output_if
    filled {at} {x} {y} h k z =
        rw (accepted, passed.form)
        (all_put o (groups 4 (length g / 3)) (numbers_laid g) y at (rw length-append passed.fits) h k z)
