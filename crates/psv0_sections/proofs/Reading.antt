-- Sections 1 to 6 as they are read: the facts that make each answer.
-- Assumes nothing.
use Prim.Native.Nat.{ℕ, ◌+◌, ◌-◌, ◌%◌, ◌≤◌, ◌<◌}
use mathlib.Core.Path.{◌≡◌, sym, ◌∙◌, ap}
use mathlib.Core.Bool.{false, ◌&&◌}
use mathlib.Core.List.{List}
use mathlib.Core.Logic.{◌⊎◌, inl, inr}
use native.Mathlib.Omega.{arith}
use Rattle.std.specs.Prelude.{Some, None, Result, Ok, Err}
use lib.Dec.{leb, eqb}
use lib.ListN.{length, drop}
use borrow.Author.Tests.{eq-eqb, ne_eqb, le-leb, lt-leb}
use Rattle.wire.specs.Number.{u32_at}
use Rattle.wire.specs.Verdict.{◌then◌, check, under, Verdict, Accepted, Refused}
use Rattle.wire.specs.declared.Refusal.{Refusal}
use Rattle.wire.proofs.Verdicts.{refuses}
use Rattle.psv0_layout.specs.Field.{element_total, mask_bytes_of}
use Rattle.psv0_layout.specs.Judged.{head_judged, body_fits}
use Rattle.psv0_layout.specs.Layout.{records_fit, guide_of, after2}
use Rattle.psv0_layout.specs.Position.{next_counted, resources_start, strings_start, indices_start, elements_start, masks_start}
use Rattle.psv0_layout.proofs.Positions.{head_judged_at, body_fits_at, next_records_inside}
use Rattle.psv0_sections.specs.Places.{head_only, head_places, body_places}
use Rattle.psv0_sections.specs.Steps.{reach, step_to, table_at, head_of, rest_of, RuntimeRead, BodyAsked}
use Rattle.psv0_sections.specs.declared.Cursor.{Cursor}
use Rattle.psv0_sections.specs.declared.Places.{Places}
use Rattle.psv0_sections.specs.declared.Table.{Table}
use Rattle.psv0_sections.proofs.Walking.{Reached, of_past, of_short, of_reached, of_unreached, Stepped, of_whole, of_cut}

-- ---- section 1
pub head_refuses : (d : List ℕ) {n p : ℕ} {w : Result (Places × Cursor) Refusal} → w ≡ Err (record { number = n; place = p }) → head_judged d ≡ Refused n p → w ≡ head_of d
unfolding head_of
head_refuses d e h = refuses _ _ e (sym h)

pub size_short : (d : List ℕ) → step_to d (u32_at d 0) 4 ≡ None → head_judged d ≡ Refused 12 0
size_short d e = rw head_judged_at (unfold check ◌then◌ in simp (lt-leb 4 (length d) (of_short d (u32_at d 0) 4 e)))

module _ (d : List ℕ) (s : ℕ) (k : Cursor) (e : step_to d (u32_at d 0) 4 ≡ Some (s, k)) where
  size : Reached d (u32_at d 0) 4 s k
  size = of_past d (u32_at d 0) 4 s k e

  pub size_refused : (s % 4 ≡ 0 → ⊥) ⊎ ((s % 4 ≡ 0) × (s < 24)) → head_judged d ≡ Refused 12 0
  size_refused (inl q) = rw (head_judged_at, ← size.number) (unfold check ◌then◌ in simp (le-leb _ _ size.inside, ne_eqb _ _ q))
  size_refused (inr q) =
      rw (head_judged_at, ← size.number) (unfold check ◌then◌ in simp (le-leb _ _ size.inside, eq-eqb _ _ q.0, lt-leb _ _ q.1))

  module _ (q : s % 4 ≡ 0) (l : 24 ≤ s) where
    runtime_over : step_to d (u32_at d 0) (next_counted 1 d 0) ≡ None → length d < resources_start d
    unfolding resources_start
    runtime_over f = of_short d _ _ f

    pub runtime_short : step_to d (u32_at d 0) (next_counted 1 d 0) ≡ None → head_judged d ≡ Refused 13 0
    runtime_short f =
        rw (head_judged_at, ← size.number)
        (unfold check ◌then◌ in simp (le-leb _ _ size.inside, eq-eqb _ _ q, le-leb _ _ l, lt-leb _ _ (runtime_over f)))

    pub runtime_read : (m : ℕ) (c : Cursor) → step_to d (u32_at d 0) (next_counted 1 d 0) ≡ Some (m, c) → RuntimeRead d s c
    unfolding resources_start
    runtime_read m c f =
        let r = of_past d _ _ m c f in
        record { long = size.inside; size = size.number; four = q; least = l; next = r.place; inside = r.inside }

-- ---- section 2
-- places that are unset but for those of sections 1 and 2
pub head_only_is : (p : Places) (s at n t : ℕ)
    → (p.edition ≡ 0) × ((p.size ≡ 0) × ((p.resources ≡ 0) × ((p.resource_count ≡ 0) × ((p.resource_size ≡ 0) × ((p.strings ≡ 0) × ((p.string_bytes ≡ 0) × ((p.indices ≡ 0) × ((p.index_count ≡ 0) × ((p.elements ≡ 0) × ((p.element_count ≡ 0) × ((p.element_size ≡ 0) × ((p.masks ≡ 0) × (p.mask_bytes ≡ 0)))))))))))))
    → record p { size = s; resources = at; resource_count = n; resource_size = t } ≡ head_only s at n t
head_only_is p s at n t z = cc

module _ (d : List ℕ) (s : ℕ) (c : Cursor) (w : RuntimeRead d s c) where
  judged : head_judged d
      ≡ check (leb (c.at + 4) (length d) && records_fit (u32_at d c.at) (drop (c.at + 4) d)) 14 0
  unfolding check ◌then◌
  judged =
      let four : u32_at d 0 % 4 ≡ 0 = rw w.size at w.four in
      let least : 24 ≤ u32_at d 0 = rw w.size at w.least in
      rw (head_judged_at, w.next) (simp (le-leb _ _ w.long, eq-eqb _ _ four, le-leb _ _ least, le-leb _ _ w.inside))

  pub count_short : step_to d (u32_at d c.at) (c.at + 4) ≡ None → head_judged d ≡ Refused 14 0
  count_short e = rw judged (unfold check in simp (lt-leb _ _ (of_short d _ _ e)))

  module _ (n : ℕ) (k : Cursor) (e : step_to d (u32_at d c.at) (c.at + 4) ≡ Some (n, k)) where
    count : Reached d (u32_at d c.at) (c.at + 4) n k
    count = of_past d _ _ n k e

    pub resources_cut : table_at n d k.at ≡ None → head_judged d ≡ Refused 14 0
    resources_cut f =
        rw (judged, ← count.place, ← count.number) (unfold check in simp (le-leb _ _ (rw (← count.place) at count.inside), of_cut n d k.at f))

    pub resources_read : (t : Table) → table_at n d k.at ≡ Some t → Ok (head_only s t.first n t.stride, t.next) ≡ head_of d
    unfolding head_of head_places strings_start under
    resources_read t q =
        let r = of_whole n d k.at t q in
        let j : head_judged d ≡ Accepted = rw (judged, ← count.place, ← count.number) (unfold check in simp (le-leb _ _ (rw (← count.place) at count.inside), r.fits)) in
        rw (j, r.is, count.place, count.number, w.size, w.next)

-- ---- sections 3 to 6
pub body_refuses : (er : ℕ) (d : List ℕ) {n p : ℕ} {w : Result Places Refusal} → w ≡ Err (record { number = n; place = p })
    → body_fits (after2 d) (element_total (guide_of d)) (mask_bytes_of (guide_of d)) ≡ Refused n p → w ≡ rest_of er d
unfolding rest_of
body_refuses er d e h = refuses _ _ e (sym h)

module _ (er : ℕ) (d : List ℕ) (p : Places) (c : Cursor) (e m : ℕ) (w : BodyAsked er d p c e m) where
  fits_at : {v : Verdict}
      → (check (leb (indices_start d) (length d) && eqb (u32_at d (strings_start d) % 4) 0) 18 0
      then check (leb (elements_start d) (length d)) 19 0
      then check (records_fit e (drop (elements_start d) d)) 20 0
      then check (leb m (length d - masks_start d)) 21 0)
      ≡ v
      → body_fits (after2 d) (element_total (guide_of d)) (mask_bytes_of (guide_of d)) ≡ v
  fits_at v = rw (body_fits_at, ← w.elements, ← w.masks, v)

  strings_next : next_counted 1 d c.at ≡ indices_start d
  unfolding indices_start
  strings_next = rw w.head.next

  pub strings_short : step_to d (u32_at d c.at) (next_counted 1 d c.at) ≡ None → body_fits (after2 d) (element_total (guide_of d)) (mask_bytes_of (guide_of d)) ≡ Refused 18 0
  unfolding check ◌then◌
  strings_short f =
      let over : length d < indices_start d = rw (← strings_next) (of_short d _ _ f) in
      fits_at (simp (lt-leb _ _ over))

  module _ (t : ℕ) (k3 : Cursor) (e3 : step_to d (u32_at d c.at) (next_counted 1 d c.at) ≡ Some (t, k3)) where
    strings : Reached d (u32_at d (strings_start d)) (indices_start d) t k3
    strings = rw (← strings_next, ← w.head.next) (of_past d _ _ t k3 e3)

    pub strings_four : (t % 4 ≡ 0 → ⊥) → body_fits (after2 d) (element_total (guide_of d)) (mask_bytes_of (guide_of d)) ≡ Refused 18 0
    unfolding check ◌then◌
    strings_four q =
        fits_at (rw (← strings.number) (simp (le-leb _ _ strings.inside, ne_eqb _ _ q)))

    indices_next : next_counted 4 d k3.at ≡ elements_start d
    unfolding elements_start
    indices_next = rw strings.place

    module _ (q : t % 4 ≡ 0) where
      pub indices_short : step_to d (u32_at d k3.at) (next_counted 4 d k3.at) ≡ None → body_fits (after2 d) (element_total (guide_of d)) (mask_bytes_of (guide_of d)) ≡ Refused 19 0
      unfolding check ◌then◌
      indices_short f =
          let over : length d < elements_start d = rw (← indices_next) (of_short d _ _ f) in
          fits_at
          (rw (← strings.number) (simp (le-leb _ _ strings.inside, eq-eqb _ _ q, lt-leb _ _ over)))

      module _ (n : ℕ) (k4 : Cursor) (e4 : step_to d (u32_at d k3.at) (next_counted 4 d k3.at) ≡ Some (n, k4)) where
        indices : Reached d (u32_at d (indices_start d)) (elements_start d) n k4
        indices = rw (← indices_next, ← strings.place) (of_past d _ _ n k4 e4)

        pub elements_cut : table_at e d k4.at ≡ None → body_fits (after2 d) (element_total (guide_of d)) (mask_bytes_of (guide_of d)) ≡ Refused 20 0
        unfolding check ◌then◌
        elements_cut f =
            let cut : records_fit e (drop (elements_start d) d) ≡ false = rw (← indices.place) (of_cut e d k4.at f) in
            fits_at
            (rw (← strings.number)
            (simp (le-leb _ _ strings.inside, eq-eqb _ _ q, le-leb _ _ indices.inside, cut)))

        module _ (g : Table) (e5 : table_at e d k4.at ≡ Some g) where
          elements : Stepped e d (elements_start d) g
          elements = rw (← indices.place) (of_whole e d k4.at g e5)

          masks_at : g.next.at ≡ masks_start d
          unfolding masks_start
          masks_at = ap (λ (k : Table). k.next.at) elements.is ∙ rw w.elements

          masks_inside : masks_start d ≤ length d
          unfolding masks_start
          masks_inside = rw (← w.elements) (next_records_inside d (elements_start d) e indices.inside elements.fits)

          pub masks_short : reach d (g.next.at + m) ≡ None → body_fits (after2 d) (element_total (guide_of d)) (mask_bytes_of (guide_of d)) ≡ Refused 21 0
          unfolding check ◌then◌
          masks_short f =
              let over : length d - masks_start d < m = omega (arith, of_unreached d _ f, masks_at, masks_inside) in
              fits_at
              (rw (← strings.number)
              (simp (le-leb _ _ strings.inside, eq-eqb _ _ q, le-leb _ _ indices.inside, elements.fits, lt-leb _ _ over)))

          pub body_read : (y : Cursor) → reach d (g.next.at + m) ≡ Some y
              → Ok
              (record {
                edition = er;
                size = p.size;
                resources = p.resources;
                resource_count = p.resource_count;
                resource_size = p.resource_size;
                strings = c.at + 4;
                string_bytes = t;
                indices = k3.at + 4;
                index_count = n;
                elements = g.first;
                element_count = e;
                element_size = g.stride;
                masks = g.next.at;
                mask_bytes = m;
              })
              ≡ rest_of er d
          unfolding rest_of body_places head_places check ◌then◌ under
          body_read y f =
              let fits : m ≤ length d - masks_start d = omega (arith, (of_reached d _ f).0, masks_at) in
              let v : body_fits (after2 d) (element_total (guide_of d)) (mask_bytes_of (guide_of d)) ≡ Accepted = fits_at (rw (← strings.number) (simp (le-leb _ _ strings.inside, eq-eqb _ _ q, le-leb _ _ indices.inside, elements.fits, le-leb _ _ fits))) in
              rw (v, w.head.places, w.head.next, strings.place, strings.number, indices.number, masks_at, elements.is, w.elements, w.masks)
