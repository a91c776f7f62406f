-- The checks of a DXIL part's data at numbers that the code holds, and what an accepted header tells.
-- Assumes nothing.
use Prim.Native.Nat.{ℕ, ◌+◌, ◌-◌, ◌≤◌, ◌<◌}
use mathlib.Core.Path.{◌≡◌, refl, sym, ◌∙◌, ap}
use mathlib.Core.List.{List, []}
use native.Mathlib.Omega.{arith}
use lib.ListN.{length, take, drop}
use borrow.Author.Tests.{le-leb, lt-leb, leb-true}
use Rattle.wire.specs.Number.{u32_at}
use Rattle.wire.specs.Verdict.{◌then◌, check, Accepted, Refused}
use Rattle.std.specs.Prelude.{Result, Ok, Err}
use Rattle.wire.specs.declared.Refusal.{Refusal}
use Rattle.wire.proofs.Choices.{differ, agree}
use Rattle.wire.proofs.Verdicts.{check_then, check_accepted, refused_by, accepted_by, value_by, accepts}
use Rattle.dxil_layout.specs.Program.{mark, bitcode_start, bitcode_end, program_judged, program_shown, program_of, bitcode_of}
use Rattle.dxil_layout.specs.declared.Program.{Program}

-- ---- 40, 41, 42: m is the mark that was read and k the one that is asked for, o the offset and s the size of the bitcode
module _ (d : List ℕ) where
  pub under_24 : length d < 24 → Refused 40 0 ≡ program_judged d
  unfolding program_judged check ◌then◌
  under_24 h = simp (lt-leb _ _ h)

  module _ (l : 24 ≤ length d) {m k : ℕ} (em : m ≡ u32_at d 8) (ek : k ≡ u32_at mark 0) where
    pub wrong_mark : (m ≡ k → ⊥) → Refused 41 0 ≡ program_judged d
    unfolding program_judged check ◌then◌
    wrong_mark h = simp (le-leb _ _ l, differ em ek h)

    module _ (e : m ≡ k) {o s : ℕ} (eo : o ≡ u32_at d 16) (es : s ≡ u32_at d 20) where
      pub past_end : length d < 8 + o + s → Refused 42 0 ≡ program_judged d
      unfolding program_judged bitcode_end check ◌then◌
      past_end h = simp (le-leb _ _ l, agree em ek e, lt-leb _ _ (rw (eo, es) at h))

      pub inside : 8 + o + s ≤ length d → Accepted ≡ program_judged d
      unfolding program_judged bitcode_end check ◌then◌
      inside h = simp (le-leb _ _ l, agree em ek e, le-leb _ _ (rw (eo, es) at h))

-- ---- a program p that was read
module _ (d : List ℕ) {w : Result Program Refusal} (hw : w ≡ program_of d) where
  pub no_bitcode : {r : Refusal} → w ≡ Err r → [] ≡ bitcode_of d
  unfolding program_of bitcode_of
  no_bitcode e = rw (refused_by _ _ hw e)

  module _ {p : Program} (e : w ≡ Ok p) where
    accepted : program_judged d ≡ Accepted
    unfolding program_of
    accepted = accepted_by _ _ hw e

    shown : p ≡ program_shown d
    unfolding program_of
    shown = value_by _ _ hw e

    end_inside : bitcode_end d ≤ length d
    unfolding program_judged
    end_inside =
        let (c40, v1) = check_then _ _ _ _ accepted in
        let (c41, v2) = check_then _ _ _ _ v1 in
        leb-true _ _ (check_accepted _ _ _ v2)

    pub stretch_inside : p.start + p.len ≤ length d
    unfolding bitcode_end bitcode_start
    stretch_inside = rw shown end_inside

    pub bitcode_is : take (p.start + p.len - p.start) (drop p.start d) ≡ bitcode_of d
    unfolding bitcode_of
    bitcode_is =
        let z : p.start + p.len - p.start ≡ p.len = omega arith in
        rw (z, accepted, shown)

-- the data are read where the header's fields are
pub all_shown : (d : List ℕ) → Accepted ≡ program_judged d → Ok (program_shown d) ≡ program_of d
unfolding program_of
all_shown d h = accepts _ _ h
