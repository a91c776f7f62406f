-- The test of plain form.
-- Assumes nothing.
use Prim.Native.Nat.{ℕ, zero, suc, ◌≤◌, ◌<◌}
use mathlib.Core.Path.{◌≡◌, refl, ◌∙◌, ap}
use mathlib.Core.Bool.{Bool, true, false, ◌&&◌, ◌||◌}
use mathlib.Core.List.{List, [], ◌∷◌}
use native.Mathlib.Omega.{arith}
use lib.Dec.{leb, eqb}
use lib.ListN.{length, drop, length-drop, drop_of_length-le}
use borrow.Author.Tests.{leb-true, leb-false, le-leb, lt-leb, eqb-true, eq-eqb, ne_eqb}
use Rattle.constants.specs.Edition.{size_of, file_edition_of}
use Rattle.constants.proofs.Editions.{edition_few}
use Rattle.wire.specs.Choice.{choose}
use Rattle.wire.specs.Number.{u32_at}
use Rattle.wire.specs.Verdict.{Accepted}
use Rattle.wire.proofs.Choices.{both}
use Rattle.psv0_layout.specs.Field.{mask_bytes_of}
use Rattle.psv0_layout.specs.Judged.{opened}
use Rattle.psv0_layout.specs.Layout.{sections, guide_of, after2, after5, edition_read_of}
use Rattle.psv0_writer_layout.specs.Plain.{PlainForm}
use Rattle.psv0_writer_layout.specs.Written.{resource_size_of}
use Rattle.psv0_writer_layout.proofs.WrittenSections.{edition_again}
use Rattle.replacing_layout.specs.Judged.{sized_as, is_plain}

none : (l : List ℕ) → length l ≡ 0 → l ≡ []
none [] e = refl
none (x ∷ l) e = absurd (omega arith)

drop_none : (n : ℕ) (l : List ℕ) → drop n l ≡ [] → length l ≤ n
drop_none n l e = omega (arith, simp length-drop at (ap length e))

sized_told : (n t s : ℕ) → sized_as n t s ≡ true → 0 < n → t ≡ s
sized_told n t s e h = go (eqb n 0) refl e
  where
    go : (u : Bool) → eqb n 0 ≡ u → (u || eqb t s) ≡ true → t ≡ s
    go true p q = absurd (let z = eqb-true n 0 p in omega arith)
    go false p q = eqb-true t s q

sized_is : (n t s : ℕ) → (0 < n → t ≡ s) → sized_as n t s ≡ true
sized_is zero t s f = refl
sized_is (suc n) t s f = rw (ne_eqb (suc n) 0 (λ e. omega arith)) (eq-eqb t s (f (omega arith)))

module _ (d : List ℕ) where
  abbrev e : ℕ
  e = file_edition_of (u32_at d 0)

  pub plain_told : opened 3 d ≡ Accepted → is_plain d ≡ true → PlainForm (file_edition_of (u32_at d 0)) d
  unfolding is_plain
  plain_told a p =
      let (p1, last) = both (eqb (u32_at d 0) (size_of e) && sized_as (sections d).resources.count (sections d).resources.stride (resource_size_of e)) _ p in
      let (size, resources) = both (eqb (u32_at d 0) (size_of e)) _ p1 in
      record {
        edition = edition_few (u32_at d 0);
        accepted = a;
        size = eqb-true _ _ size;
        resources = sized_told (sections d).resources.count (sections d).resources.stride _ resources;
        elements = λ h. sized_told (sections d).elements.count (sections d).elements.stride 16 (later h last).0;
        none_after_head = λ z. none _ (eqb-true _ _ (first z last));
        none_after_masks = λ h. drop_of_length-le (after5 d) (leb-true _ _ (later h last).1);
      }
    where
      later : 1 ≤ e → choose (leb 1 e) (sized_as (sections d).elements.count (sections d).elements.stride 16 && leb (length (after5 d)) (mask_bytes_of (guide_of d))) (eqb (length (after2 d)) 0) ≡ true
          → (sized_as (sections d).elements.count (sections d).elements.stride 16 ≡ true) × (leb (length (after5 d)) (mask_bytes_of (guide_of d)) ≡ true)
      later h q = both (sized_as (sections d).elements.count (sections d).elements.stride 16) _ (simp (le-leb 1 e h) at q)

      first : e ≡ 0 → choose (leb 1 e) (sized_as (sections d).elements.count (sections d).elements.stride 16 && leb (length (after5 d)) (mask_bytes_of (guide_of d))) (eqb (length (after2 d)) 0) ≡ true
          → eqb (length (after2 d)) 0 ≡ true
      first z q = simp (lt-leb 1 e (omega arith)) at q

  pub plain_is : (k : ℕ) → PlainForm k d → is_plain d ≡ true
  unfolding is_plain
  plain_is k f =
      let m : edition_read_of 3 d ≡ k = edition_again k d f.edition f.size in
      let n = edition_few (u32_at d 0) in
      let z : e ≡ k = omega arith in
      let size : eqb (u32_at d 0) (size_of e) ≡ true = eq-eqb _ _ (f.size ∙ rw z) in
      let resources : sized_as (sections d).resources.count (sections d).resources.stride (resource_size_of e) ≡ true = sized_is (sections d).resources.count (sections d).resources.stride _ (λ h. f.resources h ∙ rw z) in
      simp (size, resources) (go z (leb 1 e) refl)
    where
      go : e ≡ k → (t : Bool) → leb 1 e ≡ t
          → choose t (sized_as (sections d).elements.count (sections d).elements.stride 16 && leb (length (after5 d)) (mask_bytes_of (guide_of d))) (eqb (length (after2 d)) 0) ≡ true
      go z true p =
          let h : 1 ≤ k = omega (arith, leb-true 1 e p) in
          let elements : sized_as (sections d).elements.count (sections d).elements.stride 16 ≡ true = sized_is (sections d).elements.count (sections d).elements.stride 16 (f.elements h) in
          let masks : length (after5 d) ≤ mask_bytes_of (guide_of d) = drop_none (mask_bytes_of (guide_of d)) (after5 d) (f.none_after_masks h) in
          simp (elements, le-leb _ _ masks)
      go z false p =
          let h : k ≡ 0 = omega (arith, leb-false 1 e p) in
          eq-eqb _ _ (ap length (f.none_after_head h))
