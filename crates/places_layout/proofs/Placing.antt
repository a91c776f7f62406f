-- The record of an accepted reading holds: each section lies in the bytes where the record says, and every reference on the way is good.
-- Assumes nothing.
use Prim.Native.Nat.{ℕ, ◌+◌, ◌*◌, ◌≤◌, ◌<◌}
use mathlib.Core.Path.{◌≡◌, refl, sym, ◌∙◌, ap}
use mathlib.Core.Bool.{Bool, true, false}
use mathlib.Core.List.{List}
use native.Mathlib.Omega.{arith}
use lib.Dec.{leb}
use lib.ListN.{length, take, drop}
use lib.Seq.{take-length}
use borrow.Author.Tests.{leb-true, leb-false}
use Rattle.constants.specs.Edition.{size_of}
use Rattle.wire.specs.Choice.{choose}
use Rattle.wire.specs.Number.{u32_at}
use Rattle.wire.specs.Verdict.{Accepted}
use Rattle.psv0_layout.specs.Field.{element_total, mask_bytes_of}
use Rattle.psv0_layout.specs.Judged.{head_judged, body_fits, opened}
use Rattle.psv0_layout.specs.Layout.{guide_of, after2, sections, seen, body_of, edition_read_of}
use Rattle.psv0_layout.specs.Position.{stride_at, first_record, resources_start, strings_start, indices_start, elements_start, masks_start}
use Rattle.psv0_layout.proofs.Inside.{records_stride, records_bytes, records_enough, last_resource, last_element, BodyFits, body_fits_lem}
use Rattle.psv0_layout.proofs.Opened.{HeadFits, head_fits, head_accepted, edition_size, body_accepted, element_good, entry_good}
use Rattle.psv0_layout.proofs.Positions.{part_part, resources_at, strings_at, indices_at, elements_at, masks_at, runtime_at}
use Rattle.psv0_layout.proofs.Wholes.{records_count}
use Rattle.places_layout.specs.Placed.{head_at, whole_at, places_at}
use Rattle.places_layout.proofs.Holding.{HoldsBody, Holds, Good}

-- the data d are the bytes of b from the place o on
pub record PartAt (b d : List ℕ) (o : ℕ) : Type 0 where
  pub part : take (length d) (drop o b) ≡ d
  pub room : o + length d ≤ length b

-- data by themselves
pub alone : (d : List ℕ) → PartAt d d 0
alone d = record { part = take-length d; room = omega arith }

module _ {b d : List ℕ} {o : ℕ} (h : PartAt b d o) where
  within : (at w : ℕ) → at + w ≤ length d → take w (drop (o + at) b) ≡ take w (drop at d)
  within at w l = sym (part_part b o (length d) at w l) ∙ ap (λ (x : List ℕ). take w (drop at x)) h.part

  fits : (at w : ℕ) → at + w ≤ length d → o + at + w ≤ length b
  fits at w l = omega (arith, h.room)

  module _ (hj : head_judged d ≡ Accepted) where
    abbrev f : HeadFits d
    f = head_fits d hj

    runtime_holds : (er : ℕ) → size_of er ≤ u32_at d 0 → take (size_of er) (drop (o + 4) b) ≡ take (size_of er) (sections d).runtime
    unfolding seen
    runtime_holds er long = within 4 (size_of er) (omega (arith, f.runtime)) ∙ sym (runtime_at d er long)

    abbrev n : ℕ
    n = u32_at d (resources_start d)

    resources_end : first_record n (resources_start d + 4) + n * stride_at n d (resources_start d + 4) ≤ length d
    resources_end = rw (last_resource d) f.end

    resources_hold : take (n * stride_at n d (resources_start d + 4)) (drop (o + first_record n (resources_start d + 4)) b) ≡ (sections d).resources.bytes
    resources_hold =
        within (first_record n (resources_start d + 4)) (n * stride_at n d (resources_start d + 4)) resources_end
        ∙ records_bytes n (resources_start d + 4) d ∙ sym (ap (λ t. t.bytes) (resources_at d))

    head_holds : Holds (head_at o d) b 0 (sections d)
    unfolding head_at
    head_holds =
        record {
          edition = refl;
          runtime = runtime_holds 0 f.least;
          runtime_fits = fits 4 24 (omega (arith, f.runtime, f.least));
          count = rw resources_at (sym (records_count _ _));
          stride = rw resources_at (records_stride _ _ d);
          enough = records_enough _ _ d f.records;
          resources = resources_hold;
          resources_fit = fits _ _ resources_end;
          body = λ l. absurd (omega arith);
        }

    module _ (er : ℕ) (long : size_of er ≤ u32_at d 0) (bj : body_fits (after2 d) (element_total (guide_of d)) (mask_bytes_of (guide_of d)) ≡ Accepted) where
      abbrev g : BodyFits d
      g = body_fits_lem d bj

      abbrev e : ℕ
      e = element_total (guide_of d)

      elements_end : first_record e (elements_start d) + e * stride_at e d (elements_start d) ≤ length d
      elements_end = rw (last_element d) g.elements

      body_holds : HoldsBody (whole_at o er d) b (sections d)
      unfolding whole_at
      body_holds =
          record {
            stage = unfold sections in refl;
            strings = within (strings_start d + 4) _ g.strings ∙ sym (strings_at d);
            strings_fit = fits _ _ g.strings;
            indices = within (indices_start d + 4) _ g.indices ∙ sym (indices_at d);
            indices_fit = fits _ _ g.indices;
            count = rw elements_at (sym (records_count _ _));
            stride = rw elements_at (records_stride _ _ d);
            enough = records_enough _ _ d g.records;
            elements =
                within (first_record e (elements_start d)) (e * stride_at e d (elements_start d)) elements_end
                ∙ records_bytes e (elements_start d) d ∙ sym (ap (λ t. t.bytes) (elements_at d));
            elements_fit = fits _ _ elements_end;
            words = unfold sections in refl;
            masks = within (masks_start d) _ g.masks ∙ sym (masks_at d);
            masks_fit = fits _ _ g.masks;
          }

      whole_holds : Holds (whole_at o er d) b er (sections d)
      unfolding whole_at
      whole_holds =
          record {
            edition = refl;
            runtime = runtime_holds er long;
            runtime_fits = fits 4 (size_of er) (omega (arith, f.runtime));
            count = rw resources_at (sym (records_count _ _));
            stride = rw resources_at (records_stride _ _ d);
            enough = records_enough _ _ d f.records;
            resources = resources_hold;
            resources_fit = fits _ _ resources_end;
            body = λ l. body_holds;
          }

  -- ---- an accepted reading at edition k
  module _ (k : ℕ) (j : opened k d ≡ Accepted) where
    abbrev er : ℕ
    er = edition_read_of k d

    pub places_hold : Holds (places_at o er d) b er (sections d)
    unfolding places_at
    places_hold = go (leb 1 er) refl
      where
        go : (t : Bool) → leb 1 er ≡ t → Holds (choose t (whole_at o er d) (head_at o d)) b er (sections d)
        go true c = whole_holds (head_accepted k d j) er (edition_size k d j) (body_accepted k d j (leb-true 1 er c))
        go false c = let z : er ≡ 0 = omega (arith, leb-false 1 er c) in rw z (head_holds (head_accepted k d j))

-- the references of accepted data are good
pub references_good : (k : ℕ) (d : List ℕ) → opened k d ≡ Accepted → Good (edition_read_of k d) (sections d)
unfolding seen body_of
references_good k d j =
    record {
      names = λ one i l. (element_good k d j one i (counted one l)).0;
      arrays = λ one i l. (element_good k d j one i (counted one l)).1;
      entry = λ l. entry_good k d j l;
    }
  where
    counted : {i : ℕ} → 1 ≤ edition_read_of k d → i < (sections d).elements.count → i < element_total (guide_of d)
    counted one l = rw (elements_at, records_count) at l
