-- The places of an accepted reading: each section lies inside the data where they say, and holds what the layout says.
-- Assumes nothing.
use Prim.Native.Nat.{ℕ}
use mathlib.Core.Path.{◌≡◌, refl, sym}
use mathlib.Core.List.{List}
use native.Mathlib.Nat.{mul-one}
use lib.ListN.{take, drop}
use Rattle.wire.specs.Number.{u32_at}
use Rattle.wire.specs.Verdict.{Accepted}
use Rattle.psv0_layout.specs.Field.{element_total, mask_bytes_of}
use Rattle.psv0_layout.specs.Judged.{head_judged, body_fits}
use Rattle.psv0_layout.specs.Layout.{counted, guide_of, after2, sections}
use Rattle.psv0_layout.proofs.Inside.{records_stride, records_bytes, records_enough, last_resource, last_element, body_fits_lem}
use Rattle.psv0_layout.proofs.Opened.{head_fits}
use Rattle.psv0_layout.proofs.Positions.{resources_at, strings_at, indices_at, elements_at, masks_at}
use Rattle.psv0_layout.proofs.Wholes.{records_count}
use Rattle.psv0_sections.specs.Places.{head_places, body_places, HeadPlaced, BodyPlaced}

-- ---- sections 1 and 2
runtime_is : (d : List ℕ) → take (u32_at d 0) (drop 4 d) ≡ (sections d).runtime
unfolding sections counted
runtime_is d = rw (mul-one (u32_at d 0))

pub head_placed : (d : List ℕ) → head_judged d ≡ Accepted → HeadPlaced d (head_places d)
unfolding head_places
head_placed d e =
    let f = head_fits d e in
    record {
      runtime = runtime_is d;
      runtime_fits = f.runtime;
      size = refl;
      least = f.least;
      count = rw resources_at (sym (records_count _ _));
      stride = rw resources_at (records_stride _ _ d);
      resources = rw resources_at (records_bytes _ _ d);
      enough = records_enough _ _ d f.records;
      resources_fit = rw (last_resource d) f.end;
    }

-- ---- sections 3 to 6
pub body_placed : (er : ℕ) (d : List ℕ) → body_fits (after2 d) (element_total (guide_of d)) (mask_bytes_of (guide_of d)) ≡ Accepted → BodyPlaced d (body_places er d)
unfolding body_places
body_placed er d e =
    let f = body_fits_lem d e in
    record {
      strings = sym (strings_at d);
      strings_fit = f.strings;
      indices = sym (indices_at d);
      indices_fit = f.indices;
      count = rw elements_at (sym (records_count _ _));
      stride = rw elements_at (records_stride _ _ d);
      elements = rw elements_at (records_bytes _ _ d);
      enough = records_enough _ _ d f.records;
      elements_fit = rw (last_element d) f.elements;
      masks = sym (masks_at d);
      masks_fit = f.masks;
      mask_bytes_of = refl;
    }
