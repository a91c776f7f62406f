-- What the writer's check 27 tells of the given lengths, and when they pass it.
-- Assumes nothing.
use Prim.Native.Nat.{ℕ, zero, suc, ◌+◌, ◌*◌, ◌%◌}
use mathlib.Core.Path.{◌≡◌, refl}
use mathlib.Core.Bool.{Bool, true, ◌&&◌, ◌||◌}
use native.Mathlib.Omega.{arith}
use lib.Dec.{leb, eqb}
use lib.ListN.{length}
use borrow.Author.Tests.{le-leb, eq-eqb, eqb-true}
use Rattle.constants.specs.Edition.{size_of}
use Rattle.wire.proofs.Choices.{both}
use Rattle.psv0_layout.specs.Field.{element_total, mask_bytes_of}
use Rattle.psv0_writer_layout.specs.Written.{Given, resource_size_of, lengths_right}

-- the bytes of sections 3 to 6, counts and sizes apart
abbrev pub body_total : Given → ℕ
body_total g = length g.strings + length g.indices + length g.elements + length g.masks

-- check 27, test by test
pub record Lengths (e : ℕ) (g : Given) : Type 0 where
  pub runtime : length g.runtime ≡ size_of e
  pub resources : length g.resources % resource_size_of e ≡ 0
  pub strings : length g.strings % 4 ≡ 0
  pub indices : length g.indices % 4 ≡ 0
  pub elements : length g.elements ≡ element_total g.runtime * 16
  pub masks : length g.masks ≡ mask_bytes_of g.runtime
  pub none : e ≡ 0 → body_total g ≡ 0

each_true : (a b c d x y z : Bool) → (a && b && c && d && x && y && z) ≡ true
    → (a ≡ true) × (b ≡ true) × (c ≡ true) × (d ≡ true) × (x ≡ true) × (y ≡ true) × (z ≡ true)
each_true a b c d x y z h =
    let (h6, hz) = both (a && b && c && d && x && y) z h in
    let (h5, hy) = both (a && b && c && d && x) y h6 in
    let (h4, hx) = both (a && b && c && d) x h5 in
    let (h3, hd) = both (a && b && c) d h4 in
    let (h2, hc) = both (a && b) c h3 in
    let (ha, hb) = both a b h2 in
    (ha, hb, hc, hd, hx, hy, hz)

module _ (e : ℕ) (g : Given) where
  pub lengths_told : lengths_right e g ≡ true → Lengths e g
  unfolding lengths_right
  lengths_told h =
      let (runtime, resources, strings, indices, elements, masks, none) =
      each_true (eqb (length g.runtime) (size_of e)) (eqb (length g.resources % resource_size_of e) 0) (eqb (length g.strings % 4) 0)
      (eqb (length g.indices % 4) 0) (eqb (length g.elements) (element_total g.runtime * 16))
      (eqb (length g.masks) (mask_bytes_of g.runtime)) (leb 1 e || eqb (body_total g) 0) h in
      record {
        runtime = eqb-true _ _ runtime;
        resources = eqb-true _ _ resources;
        strings = eqb-true _ _ strings;
        indices = eqb-true _ _ indices;
        elements = eqb-true _ _ elements;
        masks = eqb-true _ _ masks;
        none = λ z. eqb-true _ _ (rw z at none);
      }

  pub lengths_right_lem : Lengths e g → lengths_right e g ≡ true
  unfolding lengths_right
  lengths_right_lem l =
      simp (eq-eqb _ _ l.runtime, eq-eqb _ _ l.resources, eq-eqb _ _ l.strings, eq-eqb _ _ l.indices, eq-eqb _ _ l.elements, eq-eqb _ _ l.masks)
      (last e l.none)
    where
      last : (k : ℕ) → (k ≡ 0 → body_total g ≡ 0) → (leb 1 k || eqb (body_total g) 0) ≡ true
      last zero h = eq-eqb _ _ (h refl)
      last (suc k) h = simp (le-leb 1 (suc k) (omega arith))
