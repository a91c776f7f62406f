-- What the checks tell of PSV0 data that they accept: of sections 1 and 2, and of a whole opening.
-- Assumes nothing.
use Prim.Native.Nat.{ℕ, ◌+◌, ◌%◌, ◌≤◌, ◌<◌}
use mathlib.Core.Path.{◌≡◌, sym, ◌∙◌}
use mathlib.Core.Bool.{true, ◌&&◌}
use mathlib.Core.List.{List, []}
use native.Mathlib.Omega.{arith}
use native.Mathlib.Nat.{le_trans}
use lib.Dec.{leb, eqb}
use lib.ListN.{length, get_or, drop}
use borrow.Author.Tests.{leb-true, eqb-true}
use Rattle.constants.specs.Edition.{size_of, file_edition_of}
use Rattle.constants.proofs.Editions.{size_mono, edition_fits}
use Rattle.wire.specs.Number.{u32_at, Bytes}
use Rattle.wire.specs.Verdict.{◌then◌, check, from, Accepted}
use Rattle.wire.proofs.Choices.{both}
use Rattle.wire.proofs.Verdicts.{then_accepted, check_then, check_accepted, from_accepted, each_accepted}
use Rattle.psv0_layout.specs.Field.{element_total, mask_bytes_of, name_offset_of, index_reference_of, row_count}
use Rattle.psv0_layout.specs.Judged.{head_judged, fields_judged, body_fits, element_judged, elements_judged, entry_judged, judged_at, opened}
use Rattle.psv0_layout.specs.Layout.{records_fit, guide_of, after2, sections, seen, edition_read_of}
use Rattle.psv0_layout.specs.Position.{resources_start, strings_start}
use Rattle.psv0_layout.specs.Reference.{string_good, index_good}
use Rattle.psv0_layout.proofs.Positions.{next_records_inside, head_judged_at, guide_byte, elements_length}

-- ---- sections 1 and 2
pub record HeadFits (d : List ℕ) : Type 0 where
  pub four : u32_at d 0 % 4 ≡ 0
  pub least : 24 ≤ u32_at d 0
  pub runtime : 4 + u32_at d 0 ≤ length d
  pub count : resources_start d + 4 ≤ length d
  pub records : records_fit (u32_at d (resources_start d)) (drop (resources_start d + 4) d) ≡ true
  pub end : strings_start d ≤ length d

module _ (d : List ℕ) where
  runtime_inside_lem : resources_start d ≤ length d → 4 + u32_at d 0 ≤ length d
  unfolding resources_start
  runtime_inside_lem h = omega arith

  resources_inside : resources_start d + 4 ≤ length d → records_fit (u32_at d (resources_start d)) (drop (resources_start d + 4) d) ≡ true
      → strings_start d ≤ length d
  unfolding strings_start
  resources_inside h f = next_records_inside d (resources_start d + 4) _ h f

pub head_fits : (d : List ℕ) → head_judged d ≡ Accepted → HeadFits d
head_fits d e =
    let (a, e1) = check_then (leb 4 (length d) && eqb (u32_at d 0 % 4) 0 && leb 24 (u32_at d 0)) 12 0 _ (sym (head_judged_at d) ∙ e) in
    let (b, e2) = check_then (leb (resources_start d) (length d)) 13 0 _ e1 in
    let (c, f) = both (leb (resources_start d + 4) (length d)) _ (check_accepted _ 14 0 e2) in
    let (a1, least) = both (leb 4 (length d) && eqb (u32_at d 0 % 4) 0) _ a in
    let count : resources_start d + 4 ≤ length d = leb-true _ _ c in
    record {
      four = eqb-true _ _ (both (leb 4 (length d)) _ a1).1;
      least = leb-true _ _ least;
      runtime = runtime_inside_lem d (leb-true _ _ b);
      count = count;
      records = f;
      end = resources_inside d count f;
    }

-- ---- an opening of the data d at edition k
module _ (k : ℕ) (d : List ℕ) (e : opened k d ≡ Accepted) where
  checks : (leb k 3 ≡ true) × ((check (leb (length d) 16777216) 2 0 then judged_at (edition_read_of k d) d) ≡ Accepted)
  unfolding opened
  checks = check_then (leb k 3) 25 0 _ e

  pub edition_asked : k ≤ 3
  edition_asked = leb-true k 3 checks.0

  judged : (leb (length d) 16777216 ≡ true) × (judged_at (edition_read_of k d) d ≡ Accepted)
  judged = check_then (leb (length d) 16777216) 2 0 _ checks.1

  pub length_most : length d ≤ 16777216
  length_most = leb-true (length d) 16777216 judged.0

  pub head_accepted : head_judged d ≡ Accepted
  unfolding judged_at
  head_accepted = (then_accepted _ _ judged.1).0

  pub edition_size : size_of (edition_read_of k d) ≤ u32_at d 0
  edition_size =
      let fits : size_of (file_edition_of (u32_at d 0)) ≤ u32_at d 0 = edition_fits (u32_at d 0) (head_fits d head_accepted).least in
      let mono : size_of (edition_read_of k d) ≤ size_of (file_edition_of (u32_at d 0)) = size_mono (edition_read_of k d) (file_edition_of (u32_at d 0)) (omega arith) in
      le_trans mono fits

  -- at an edition read of 1 or more
  module _ (h : 1 ≤ edition_read_of k d) where
    pub later_size : size_of 1 ≤ u32_at d 0
    later_size = le_trans (size_mono 1 (edition_read_of k d) h) edition_size

    later_checks : (fields_judged (seen 1 (sections d)).runtime
        then body_fits (after2 d) (element_total (guide_of d)) (mask_bytes_of (guide_of d))
        then elements_judged (seen 1 (sections d)).body
        then from 3 (edition_read_of k d) (entry_judged (seen 3 (sections d)))) ≡ Accepted
    unfolding judged_at
    later_checks = from_accepted 1 (edition_read_of k d) _ h (then_accepted _ _ judged.1).1

    pub fields_accepted : fields_judged (seen 1 (sections d)).runtime ≡ Accepted
    fields_accepted = (then_accepted _ _ later_checks).0

    body_checks : (body_fits (after2 d) (element_total (guide_of d)) (mask_bytes_of (guide_of d))
        then elements_judged (seen 1 (sections d)).body
        then from 3 (edition_read_of k d) (entry_judged (seen 3 (sections d)))) ≡ Accepted
    body_checks = (then_accepted _ _ later_checks).1

    pub body_accepted : body_fits (after2 d) (element_total (guide_of d)) (mask_bytes_of (guide_of d)) ≡ Accepted
    body_accepted = (then_accepted _ _ body_checks).0

    pub elements_most : Bytes d → element_total (guide_of d) ≤ 765
    elements_most b =
        let b28 : get_or (guide_of d) 28 0 < 256 = rw (guide_byte d 28 later_size (omega arith)) (b.below 32) in
        let b29 : get_or (guide_of d) 29 0 < 256 = rw (guide_byte d 29 later_size (omega arith)) (b.below 33) in
        let b30 : get_or (guide_of d) 30 0 < 256 = rw (guide_byte d 30 later_size (omega arith)) (b.below 34) in
        omega arith

    reference_checks : (elements_judged (seen 1 (sections d)).body ≡ Accepted) × (from 3 (edition_read_of k d) (entry_judged (seen 3 (sections d))) ≡ Accepted)
    reference_checks = then_accepted _ _ (then_accepted _ _ body_checks).1

    -- both references of element i are good
    pub element_good : (i : ℕ) → i < element_total (guide_of d)
        → (string_good (seen 1 (sections d)).body.strings (name_offset_of (get_or (seen 1 (sections d)).body.elements i [])) ≡ true)
        × (index_good (seen 1 (sections d)).body.indices (index_reference_of (get_or (seen 1 (sections d)).body.elements i []))
        (row_count (get_or (seen 1 (sections d)).body.elements i [])) ≡ true)
    unfolding elements_judged element_judged
    element_good i l =
        let inside : i < length (seen 1 (sections d)).body.elements = rw (elements_length d) l in
        let (a, v) = check_then _ 22 i _ (each_accepted _ _ i reference_checks.0 inside) in
        (a, check_accepted _ 23 i v)

  -- the entry name's reference is good
  pub entry_good : 3 ≤ edition_read_of k d → string_good (seen 3 (sections d)).body.strings (u32_at (seen 3 (sections d)).runtime 48) ≡ true
  unfolding entry_judged
  entry_good h = check_accepted _ 24 0 (from_accepted 3 (edition_read_of k d) _ h (reference_checks (le_trans (omega arith) h)).1)
