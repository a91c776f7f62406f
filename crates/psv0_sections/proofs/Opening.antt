-- The opening, check after check, and where the sections of an accepted one lie.
-- Assumes nothing.
use Prim.Native.Nat.{ℕ, zero, suc, ◌+◌, ◌-◌, ◌*◌, ◌≤◌, ◌<◌, min}
use mathlib.Core.Path.{◌≡◌, refl, sym, ◌∙◌, ap}
use mathlib.Core.Bool.{Bool, true, false}
use mathlib.Core.List.{List}
use native.Mathlib.Omega.{arith}
use native.Mathlib.Nat.{le_trans}
use lib.Dec.{leb}
use Rattle.std.specs.Prelude.{Result, Ok, Err, IsErr, IsErrAnd}
use lib.ListN.{length, take, drop}
use borrow.Author.Tests.{le-leb, lt-leb, leb-true}
use Rattle.constants.specs.Edition.{size_of, file_edition_of}
use Rattle.constants.proofs.Editions.{size_mono, edition_fits}
use Rattle.wire.specs.Number.{u32_at}
use Rattle.wire.specs.Verdict.{◌then◌, check, when, from, under, Verdict, Accepted, Refused}
use Rattle.wire.specs.declared.Refusal.{Refusal}
use Rattle.wire.proofs.Verdicts.{refuses, refused_by, accepted_by, value_by, passed_on}
use Rattle.psv0_layout.specs.Field.{element_total, mask_bytes_of}
use Rattle.psv0_layout.specs.Judged.{head_judged, fields_judged, body_fits, elements_judged, entry_judged, judged_at, opened}
use Rattle.psv0_layout.specs.Layout.{rows, guide_of, after2, sections, seen, body_of, edition_read_of}
use Rattle.psv0_layout.specs.Position.{strings_start}
use Rattle.psv0_layout.specs.Reference.{string_good, index_total}
use Rattle.psv0_layout.proofs.Opened.{head_fits, head_accepted, body_accepted}
use Rattle.psv0_layout.proofs.Positions.{runtime_at, runtime_u32, guide_seen}
use Rattle.psv0_layout.proofs.Spans.{stretch_length}
use Rattle.psv0_sections.specs.Places.{head_places, body_places, places_of, located_of, stretch, BodyPlaced, Placed}
use Rattle.psv0_sections.specs.Steps.{head_of, rest_of, HeadRead, BodyAsked}
use Rattle.psv0_sections.specs.declared.Cursor.{Cursor}
use Rattle.psv0_sections.specs.declared.Places.{Places}
use Rattle.psv0_sections.proofs.Placing.{head_placed, body_placed}

-- ---- references, by the places of the sections
part : (d : List ℕ) (a n : ℕ) → take (a + n - a) (drop a d) ≡ stretch d a n
part d a n = let e : a + n - a ≡ n = omega arith in rw e

module _ (d : List ℕ) (p : Places) (b : BodyPlaced d p) where
  strings_are : take (p.strings + p.string_bytes - p.strings) (drop p.strings d) ≡ (sections d).strings
  strings_are = part d p.strings p.string_bytes ∙ b.strings

  pub strings_read : (seen 1 (sections d)).body.strings ≡ take (p.strings + p.string_bytes - p.strings) (drop p.strings d)
  unfolding seen body_of
  strings_read = sym strings_are

  pub indices_read : index_total (seen 1 (sections d)).body.indices ≡ p.index_count
  unfolding seen body_of
  indices_read = let long = stretch_length d (sections d).indices p.indices (p.index_count * 4) b.indices b.indices_fit in omega arith

  pub elements_read : (seen 1 (sections d)).body.elements
      ≡ rows 16 p.element_count p.element_size (take (p.elements + p.element_count * p.element_size - p.elements) (drop p.elements d))
  unfolding seen body_of
  elements_read = rw (part d p.elements (p.element_count * p.element_size), b.elements, b.count, b.stride)

  pub entry_read : (er : ℕ) → (3 ≤ er → 52 ≤ u32_at d 0)
      → from 3 er (check (string_good (take (p.strings + p.string_bytes - p.strings) (drop p.strings d)) (u32_at d 52)) 24 0)
      ≡ from 3 er (entry_judged (seen 3 (sections d)))
  unfolding from when entry_judged
  entry_read er long = go (leb 3 er) (leb-true 3 er)
    where
      go : (t : Bool) → (t ≡ true → 3 ≤ er)
          → when t (check (string_good (take (p.strings + p.string_bytes - p.strings) (drop p.strings d)) (u32_at d 52)) 24 0)
          ≡ when t (check (string_good (seen 3 (sections d)).body.strings (u32_at (seen 3 (sections d)).runtime 48)) 24 0)
      go true h = rw (runtime_u32 d 3 (long (h refl)) 48 (omega arith)) (unfold seen body_of in rw strings_are)
      go false h = refl

-- ---- a refusal of the first of two verdicts, which `?` hands on
pub first_passed : {A : Type 0} (a b : Verdict) (x : A) {w : Result A Refusal} → w ≡ under a x → {B : Type 0} (y : B) {r : Refusal} {q : Result B Refusal}
    → IsErr q × IsErrAnd q (λ (s : Refusal). s ≡ r) → w ≡ Err r → q ≡ under (a then b) y
unfolding under ◌then◌
first_passed a b x hw y h e = let v = refused_by a x hw e in passed_on a x hw y h e ∙ rw v

-- ---- 15 to 24, at an edition read of 1 or more
module _ (er : ℕ) (d : List ℕ) (p : Places) (c : Cursor) (w : HeadRead er d p c) where
  long : size_of 1 ≤ u32_at d 0
  long = le_trans (size_mono 1 er w.later) w.edition

  pub guide_inside : 40 ≤ length d
  guide_inside = omega (arith, (head_fits d w.judged).runtime, long)

  guide : take 36 (drop 4 d) ≡ guide_of d
  guide = sym (runtime_at d 1 long) ∙ guide_seen d

  pub asked : (e m : ℕ) → (e ≡ element_total (take 36 (drop 4 d))) × (e ≤ 765) → m ≡ mask_bytes_of (take 36 (drop 4 d)) → BodyAsked er d p c e m
  asked e m q r = record { head = w; elements = q.0 ∙ ap element_total guide; few = q.1; masks = r ∙ ap mask_bytes_of guide }

  pub fields_first : judged_at er d
      ≡ (fields_judged (take 36 (drop 4 d))
      then body_fits (after2 d) (element_total (guide_of d)) (mask_bytes_of (guide_of d))
      then elements_judged (seen 1 (sections d)).body
      then from 3 er (entry_judged (seen 3 (sections d))))
  unfolding judged_at from when ◌then◌
  fields_first = rw (w.judged, runtime_at d 1 long) (simp (le-leb 1 er w.later))

  module _ (f : fields_judged (take 36 (drop 4 d)) ≡ Accepted) where
    pub body_first : judged_at er d
        ≡ (body_fits (after2 d) (element_total (guide_of d)) (mask_bytes_of (guide_of d))
        then elements_judged (seen 1 (sections d)).body
        then from 3 er (entry_judged (seen 3 (sections d))))
    unfolding ◌then◌
    body_first = fields_first ∙ rw f

    pub rest_passed : {w : Result Places Refusal} → w ≡ rest_of er d → {B : Type 0} (y : B) {r : Refusal} {q : Result B Refusal}
        → IsErr q × IsErrAnd q (λ (s : Refusal). s ≡ r) → w ≡ Err r → q ≡ under (judged_at er d) y
    unfolding rest_of
    rest_passed hw y h e = rw body_first (first_passed _ _ _ hw y h e)

    module _ {r : Result Places Refusal} (hr : r ≡ rest_of er d) (places : Places) (g : r ≡ Ok places) where
      rest : (body_fits (after2 d) (element_total (guide_of d)) (mask_bytes_of (guide_of d)) ≡ Accepted) × (places ≡ body_places er d)
      unfolding rest_of
      rest = (accepted_by _ _ hr g, value_by _ _ hr g)

      edition : places.edition ≡ er
      unfolding body_places
      edition = ap (λ (x : Places). x.edition) rest.1

      pub placed_rest : BodyPlaced d places × (3 ≤ places.edition → 52 ≤ u32_at d 0)
      placed_rest =
          (rw rest.1 (body_placed er d rest.0), λ h. le_trans (size_mono 3 er (rw edition at h)) w.edition)

      pub references_first : judged_at er d ≡ (elements_judged (seen 1 (sections d)).body then from 3 places.edition (entry_judged (seen 3 (sections d))))
      unfolding ◌then◌
      references_first = rw (body_first, rest.0, edition)

      pub all_accepted : (elements_judged (seen 1 (sections d)).body then from 3 places.edition (entry_judged (seen 3 (sections d)))) ≡ Accepted
          → Ok places ≡ under (judged_at er d) (places_of er d)
      unfolding places_of under
      all_accepted v = rw (references_first, v, rest.1) (simp (le-leb 1 er w.later))

-- ---- 25, 2, then sections 1 and 2
pub locates_refused : (k : ℕ) (d : List ℕ) {n q : ℕ} {w : Result Places Refusal} → w ≡ Err (record { number = n; place = q }) → opened k d ≡ Refused n q → w ≡ located_of k d
unfolding located_of
locates_refused k d e h = refuses _ _ e (sym h)

module _ (k : ℕ) (d : List ℕ) where
  pub edition_25 : 3 < k → opened k d ≡ Refused 25 0
  unfolding opened check ◌then◌
  edition_25 h = rw (lt-leb k 3 h)

  pub length_2 : k ≤ 3 → 16777216 < length d → opened k d ≡ Refused 2 0
  unfolding opened check ◌then◌
  length_2 h l = rw (le-leb k 3 h, lt-leb (length d) 16777216 l)

module _ (k : ℕ) (d : List ℕ) (h : k ≤ 3) (l : length d ≤ 16777216) where
  opened_is : opened k d ≡ judged_at (edition_read_of k d) d
  unfolding opened check ◌then◌
  opened_is = rw (le-leb k 3 h, le-leb (length d) 16777216 l)

  located_is : located_of k d ≡ under (judged_at (edition_read_of k d) d) (places_of (edition_read_of k d) d)
  unfolding located_of
  located_is = rw opened_is

  pub head_passed : {w : Result (Places × Cursor) Refusal} → w ≡ head_of d → {r : Refusal} {q : Result Places Refusal}
      → IsErr q × IsErrAnd q (λ (s : Refusal). s ≡ r) → w ≡ Err r → q ≡ located_of k d
  unfolding head_of judged_at
  head_passed hw i e = rw located_is (first_passed _ _ _ hw _ i e)

  module _ {r : Result (Places × Cursor) Refusal} (hr : r ≡ head_of d) (places : Places) (next : Cursor) (f : r ≡ Ok (places, next)) (er file : ℕ)
      (ef : file ≡ file_edition_of places.size) (ee : er ≡ min k file) where
    read : (head_judged d ≡ Accepted) × (places ≡ head_places d) × (next.at ≡ strings_start d)
    unfolding head_of
    read =
        let v = value_by _ _ hr f in
        (accepted_by _ _ hr f, ap (λ (x : Places × Cursor). x.0) v, ap (λ (x : Places × Cursor). x.1.at) v)

    size : places.size ≡ u32_at d 0
    unfolding head_places
    size = ap (λ (x : Places). x.size) read.1

    edition_is : er ≡ edition_read_of k d
    edition_is = ee ∙ rw (ef, size)

    pub head_alone : er ≡ 0 → Ok places ≡ located_of k d
    unfolding judged_at from when places_of ◌then◌ under
    head_alone q = rw (located_is, ← edition_is, q, read.0, read.1)

    pub head_read : (er ≡ 0 → ⊥) → HeadRead er d places next
    head_read q =
        let least : 24 ≤ u32_at d 0 = (head_fits d read.0).least in
        let fits : size_of (file_edition_of (u32_at d 0)) ≤ u32_at d 0 = edition_fits (u32_at d 0) least in
        let mono : size_of er ≤ size_of (file_edition_of (u32_at d 0)) = size_mono er (file_edition_of (u32_at d 0)) (omega (arith, edition_is)) in
        record { judged = read.0; places = read.1; next = read.2; edition = le_trans mono fits; later = some er q }
      where
        some : (n : ℕ) → (n ≡ 0 → ⊥) → 1 ≤ n
        some zero g = absurd (g refl)
        some (suc n) g = omega arith

    pub body_located : under (judged_at er d) (places_of er d) ≡ located_of k d
    body_located = rw edition_is (sym located_is)

-- ---- what an accepted opening tells
-- each section lies where the places of an accepted opening say
pub places_later : (er : ℕ) (d : List ℕ) → 1 ≤ er → places_of er d ≡ body_places er d
unfolding places_of
places_later er d h = simp (le-leb 1 er h)

all_placed : (er : ℕ) (d : List ℕ) → head_judged d ≡ Accepted
    → body_fits (after2 d) (element_total (guide_of d)) (mask_bytes_of (guide_of d)) ≡ Accepted → Placed er d (body_places er d)
unfolding body_places head_places
all_placed er d e f =
    let p = head_placed d e in
    record {
      edition = refl;
      head =
          record {
            runtime = p.runtime;
            runtime_fits = p.runtime_fits;
            size = p.size;
            least = p.least;
            count = p.count;
            stride = p.stride;
            resources = p.resources;
            enough = p.enough;
            resources_fit = p.resources_fit;
          };
      body = λ h. body_placed er d f;
    }

placed_at : (er : ℕ) (d : List ℕ) → head_judged d ≡ Accepted
    → (1 ≤ er → body_fits (after2 d) (element_total (guide_of d)) (mask_bytes_of (guide_of d)) ≡ Accepted) → Placed er d (places_of er d)
unfolding places_of head_places
placed_at zero d e f = record { edition = refl; head = head_placed d e; body = λ h. absurd (omega arith) }
placed_at (suc er) d e f =
    let h : 1 ≤ suc er = omega arith in
    rw (places_later (suc er) d h) (all_placed (suc er) d e (f h))

pub placed : (k : ℕ) (d : List ℕ) → opened k d ≡ Accepted → Placed (edition_read_of k d) d (places_of (edition_read_of k d) d)
placed k d o = placed_at (edition_read_of k d) d (head_accepted k d o) (body_accepted k d o)
