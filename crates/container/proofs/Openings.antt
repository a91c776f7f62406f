-- The cases of the search for the PSV0 part, at the parts that the code holds.
-- Assumes nothing.
use Rattle.std.specs.Prelude.{None, Option, Some, Result, Ok, Err}
use Prim.Native.Nat.{ℕ, ◌+◌, ◌≤◌, ◌<◌}
use mathlib.Core.Path.{◌≡◌, refl, sym, ◌∙◌, ap}
use mathlib.Core.Bool.{true, false}
use mathlib.Core.List.{List}
use native.Mathlib.Nat.{pos_of_ne-zero}
use native.Mathlib.Omega.{arith}
use lib.Dec.{ltb}
use lib.ListN.{length}
use borrow.Author.Tests.{le-leb, lt-leb, lt-ltb, le-ltb}
use Rattle.wire.specs.Verdict.{◌then◌, check, Accepted, Refused}
use Rattle.wire.specs.declared.Refusal.{Refusal}
use Rattle.wire.proofs.Verdicts.{accepted_by, value_by}
use Rattle.part_table_layout.specs.Lookup.{find, find_occurrence, part_at, occurrence_of, part_of}
use Rattle.part_table_layout.specs.Table.{count_of, offset_at, size_at, table_judged}
use Rattle.part_table_layout.specs.Three.{three_of}
use Rattle.part_table_layout.specs.declared.Part.{Part}
use Rattle.part_table_layout.specs.declared.ThreeParts.{ThreeParts}
use Rattle.part_table_layout.proofs.Accepted.{part_inside, accepted_told}
use Rattle.part_table_layout.proofs.Lookups.{find_told, first_occurrence, ok_err}
use Rattle.part_table_layout.proofs.Threes.{three_refused, three_accepted, three_first, three_second, three_third, three_count}
use Rattle.container_layout.specs.Container.{dxil, psv0, is_there, start_found, size_found, before_psv, container_judged}
use Rattle.container_layout.specs.Placed.{container_places}
use Rattle.container.specs.Opened.{psv_shown, container_places_of}
use Rattle.container.specs.declared.ContainerPlaces.{ContainerPlaces}

-- ---- a part that was looked up, or none: its size, whether it is there, and where its data start
module _ (b : List ℕ) where
  found_part : (f : Option ℕ) {p : Part} → part_at b f ≡ Ok p → (size_found b f ≡ p.size) × (is_there f ≡ true) × (start_found b f ≡ p.offset + 8)
  found_part (Some i) {p} e =
      let q : record { number = i; offset = offset_at b i; size = size_at b i } ≡ p = cc in
      (ap (λ (u : Part). u.size) q, refl, ap (λ (u : Part). u.offset + 8) q)
  found_part None e = ok_err e

  found_none : (f : Option ℕ) {r : Refusal} → part_at b f ≡ Err r → (size_found b f ≡ 0) × (is_there f ≡ false)
  found_none (Some i) e = ok_err (sym e)
  found_none None e = (refl, refl)

  found_inside : table_judged b ≡ Accepted → (y : ℕ) (f : Option ℕ) → find b y ≡ f → {p : Part} → part_at b f ≡ Ok p → p.offset + 8 + p.size ≤ length b
  found_inside t y (Some i) g {p} e =
      let q : record { number = i; offset = offset_at b i; size = size_at b i } ≡ p = cc in
      rw (← q) (part_inside b t i (find_told b y i g).listed)
  found_inside t y None g e = ok_err e

pub no_edition : (k : ℕ) (b : List ℕ) → 3 < k → Refused 25 0 ≡ before_psv k b
unfolding before_psv check ◌then◌
no_edition k b h = simp (lt-leb _ _ h)

module _ (k : ℕ) (b : List ℕ) (x : ℕ) (hk : k ≤ 3) {w : Result ThreeParts Refusal} (hw : w ≡ three_of b dxil psv0 x) where
  pub no_table : {r : Refusal} → w ≡ Err r → Refused r.number r.place ≡ before_psv k b
  unfolding before_psv check ◌then◌
  no_table e = let j = three_refused b dxil psv0 x hw e in simp (le-leb _ _ hk, j)

  module _ {t : ThreeParts} (e : w ≡ Ok t) where
    ok : table_judged b ≡ Accepted
    ok = three_accepted b dxil psv0 x hw e

    looked_up : (y : ℕ) {q : Result Part Refusal} → q ≡ part_of b y → q ≡ part_at b (find b y)
    unfolding occurrence_of
    looked_up y h = let a = ok in h ∙ rw (a, first_occurrence b y)

    first_is : t.first ≡ part_at b (find b dxil)
    first_is = looked_up dxil (three_first b dxil psv0 x hw e)

    second_is : t.second ≡ part_at b (find b psv0)
    second_is = looked_up psv0 (three_second b dxil psv0 x hw e)

    empty : size_found b (find b dxil) ≡ 0 → Refused 10 0 ≡ before_psv k b
    unfolding before_psv check ◌then◌
    empty z =
        let a = ok in
        let l = le-ltb 0 (size_found b (find b dxil)) (omega arith) in
        simp (le-leb _ _ hk, a, l)

    pub no_program : {r : Refusal} → t.first ≡ Err r → Refused 10 0 ≡ before_psv k b
    no_program h = empty (found_none b (find b dxil) (sym first_is ∙ h)).0

    module _ {p : Part} (hp : t.first ≡ Ok p) where
      program_size : size_found b (find b dxil) ≡ p.size
      program_size = (found_part b (find b dxil) (sym first_is ∙ hp)).0

      pub empty_program : p.size ≡ 0 → Refused 10 0 ≡ before_psv k b
      empty_program z = empty (program_size ∙ z)

      module _ (some : p.size ≡ 0 → ⊥) where
        there : ltb 0 (size_found b (find b dxil)) ≡ true
        there = let s : 0 < p.size = pos_of_ne-zero some in lt-ltb 0 (size_found b (find b dxil)) (omega (arith, program_size))

        pub no_validation : {r : Refusal} → t.second ≡ Err r → Refused 11 0 ≡ before_psv k b
        unfolding before_psv check ◌then◌
        no_validation h =
            let a = ok in
            let l = there in
            let m = (found_none b (find b psv0) (sym second_is ∙ h)).1 in
            simp (le-leb _ _ hk, a, l, m)

        module _ {q : Part} (hq : t.second ≡ Ok q) where
          found : (size_found b (find b psv0) ≡ q.size) × (is_there (find b psv0) ≡ true) × (start_found b (find b psv0) ≡ q.offset + 8)
          found = found_part b (find b psv0) (sym second_is ∙ hq)

          -- the sums fit
          pub short : q.offset + 8 + q.size ≤ 16777216
          short =
              let l = found_inside b ok psv0 (find b psv0) refl (sym second_is ∙ hq) in
              let s = (accepted_told b ok).header.short in
              omega arith

          pub passes : Accepted ≡ before_psv k b
          unfolding before_psv check ◌then◌
          passes =
              let a = ok in
              let l = there in
              let m = found.1 in
              simp (le-leb _ _ hk, a, l, m)

          pub found_psv0 : record { parts = t.count; start = q.offset + 8; end = q.offset + 8 + q.size; asked = t.third } ≡ psv_shown b x
          found_psv0 =
              let n : t.count ≡ count_of b = three_count b dxil psv0 x hw e in
              let s = found.2 in
              let z = found.0 in
              let third : t.third ≡ part_at b (find_occurrence b x 0) = let a = ok in three_third b dxil psv0 x hw e ∙ (unfold occurrence_of in rw a) in
              rw (n, s, z, third)

-- an opening that accepts hands back the container's places
pub places_are : (k : ℕ) (b : List ℕ) {w : Result ContainerPlaces Refusal} → w ≡ container_places_of k b → {o : ContainerPlaces} → w ≡ Ok o
    → (container_judged k b ≡ Accepted) × (o.places ≡ container_places k b)
unfolding container_places_of
places_are k b hw e = (accepted_by _ _ hw e, ap (λ (q : ContainerPlaces). q.places) (value_by _ _ hw e))
