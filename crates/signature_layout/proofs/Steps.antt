-- The steps of the reader's code.
-- Assumes nothing.
use Rattle.std.specs.Prelude.{Option, Some, None}
use Prim.Native.Nat.{ℕ, ◌+◌, ◌-◌, ◌≤◌, ◌<◌}
use mathlib.Core.Path.{◌≡◌, sym, ◌∙◌}
use mathlib.Core.Bool.{true}
use mathlib.Core.List.{List, []}
use native.Mathlib.Omega.{arith}
use lib.ListN.{length, take, drop}
use borrow.Author.Tests.{le-leb, lt-leb, eq-eqb, ne_eqb}
use Rattle.utf8_layout.specs.Sequence.{well_formed, code_points}
use Rattle.psv0_layout.specs.Reference.{string_good, string_at}
use Rattle.psv0_layout.proofs.References.{string_is, string_inside, good_parts}
use Rattle.signature_layout.specs.Signature.{element_at, fields_of, name_offset_of, name_good, name_of, element_shown, bytes_of}
use Rattle.signature_layout.specs.declared.NameSpan.{NameSpan}
use Rattle.signature_layout.specs.declared.SignatureAnswer.{SignatureAnswer}
use Rattle.signature_layout.specs.declared.SignatureElement.{SignatureElement}
use Rattle.signature_layout.proofs.Signatures.{good_named}

-- ---- the name at the offset o
module _ (d : List ℕ) {o : ℕ} where
  pub unset_at : o ≡ 0 → None ≡ name_of d o
  unfolding name_of
  unset_at e = rw (eq-eqb o 0 e)

  module _ (f : o ≡ 0 → ⊥) (g : name_good d o ≡ true) {n : ℕ} (en : n ≡ length (string_at d o)) where
    good : string_good d o ≡ true
    good = sym (good_named d f) ∙ g

    pub set_inside : o + n ≤ length d
    set_inside = let l = string_inside d o good in (string_is d o n en (omega arith)).0

    -- p is the number that is told of the bytes there
    pub set_at : {p : ℕ} → (well_formed (take (o + n - o) (drop o d)) ≡ true → p ≡ code_points (take (o + n - o) (drop o d)))
        → Some (record { start = o; len = n; points = p }) ≡ name_of d o
    unfolding name_of
    set_at {p} h =
        let z : o + n - o ≡ n = omega arith in
        let l = string_inside d o good in
        let q : take (o + n - o) (drop o d) ≡ string_at d o = rw z (sym (string_is d o n en (omega arith)).1) in
        let ep : p ≡ code_points (string_at d o) = rw q at (h (rw q (good_parts d o good).1)) in
        rw (ne_eqb o 0 f, en, ep)

-- ---- element i: h its fields and x the name that were read
module _ (d : List ℕ) (i : ℕ) {h : SignatureElement} (eh : h ≡ fields_of (element_at d i)) where
  pub answer_good : name_good d (name_offset_of d i) ≡ true → name_good d h.name_offset ≡ true
  unfolding fields_of
  answer_good g = rw eh g

  pub answer_is : {x : Option NameSpan} → x ≡ name_of d h.name_offset → ◌≡◌ {A = SignatureAnswer} (record { element = h; name = x }) (element_shown d i)
  unfolding fields_of
  answer_is ex = rw (ex, eh)

-- ---- the bytes of a name
module _ (d : List ℕ) (x : NameSpan) where
  pub bytes_outside : length d < x.start + x.len → [] ≡ bytes_of d (Some x)
  bytes_outside h = rw (lt-leb (x.start + x.len) (length d) h)

  pub bytes_inside : x.start + x.len ≤ length d → take (x.start + x.len - x.start) (drop x.start d) ≡ bytes_of d (Some x)
  bytes_inside h = let z : x.start + x.len - x.start ≡ x.len = omega arith in rw (z, le-leb (x.start + x.len) (length d) h)
