-- The places of accepted data, as the record that an opening hands back.
-- Assumes nothing.
use mathlib.Core.Path.{◌≡◌, sym, ap, ◌∙◌}
use mathlib.Core.Bool.{true}
use mathlib.Core.List.{List}
use Prim.Native.Nat.{ℕ, ◌+◌, ◌≤◌}
use mathlib.Core.Logic.{⊎_elim}
use native.Mathlib.Nat.{eq-zero-or-pos}
use native.Mathlib.Omega.{arith}
use lib.Dec.{leb}
use lib.ListN.{length, take, drop}
use borrow.Author.Tests.{le-leb}
use Rattle.psv0_layout.specs.Field.{stage, mask_words_of}
use Rattle.psv0_layout.specs.Layout.{guide_of, edition_read_of}
use Rattle.psv0_layout.proofs.Positions.{guide_seen, runtime_at}
use Rattle.psv0_sections.specs.Places.{head_places, body_places, places_of}
use Rattle.psv0_sections.specs.declared.Places.{Places}
use Rattle.places_layout.specs.Placed.{head_only, head_at, whole_at, places_at}
use Rattle.places_layout.specs.declared.SectionPlaces.{SectionPlaces}
use Rattle.psv0.specs.Reading.{Reading}
use Rattle.psv0.proofs.Accepted.{head, edition_is, none_placed, long}

-- a number that isn't 0
pub pos : {n : ℕ} → (n ≡ 0 → ⊥) → 1 ≤ n
pos {n} f = ⊎_elim (λ z. absurd (f z)) (λ l. l) (eq-zero-or-pos n)

from_zero : {x y : ℕ} → x ≡ y → x ≡ 0 + y
from_zero e = omega arith

module _ {d : List ℕ} {p : Places} (g : Reading d p) where
  pub head_record : p.edition ≡ 0 → head_only 4 p.resources p.resource_count p.resource_size ≡ places_at 0 p.edition d
  unfolding places_at head_at head_places
  head_record z =
      let e = none_placed g z in
      rw z
      (λ i.
      head_only 4 (from_zero (ap (λ x. x.resources) e) i) (e i).resource_count (e i).resource_size)

  -- the bytes that the later sections go by
  pub guide_is : 1 ≤ p.edition → take 36 (drop 4 d) ≡ guide_of d
  guide_is h = sym (runtime_at d 1 (rw (head g).size at (long g 1 h))) ∙ guide_seen d

  pub guide_fits : 1 ≤ p.edition → 40 ≤ length d
  guide_fits h = omega (arith, (head g).runtime_fits, long g 1 h)

  whole_placed : 1 ≤ p.edition → p ≡ body_places p.edition d
  unfolding places_of
  whole_placed h =
      let t : leb 1 (edition_read_of g.edition d) ≡ true = le-leb _ _ (rw (edition_is g) at h) in
      g.places ∙ rw (t, edition_is g)

  pub whole_record : (h : 1 ≤ p.edition) (s : ℕ) (w : List ℕ) → s ≡ stage (guide_of d) → w ≡ mask_words_of (guide_of d)
      → ◌≡◌ {A = SectionPlaces}
      (record {
        edition = p.edition;
        runtime = 4;
        stage = s;
        resources = p.resources;
        resource_count = p.resource_count;
        resource_size = p.resource_size;
        strings = p.strings;
        string_bytes = p.string_bytes;
        indices = p.indices;
        index_count = p.index_count;
        elements = p.elements;
        element_count = p.element_count;
        element_size = p.element_size;
        masks = p.masks;
        mask_words = w;
      })
      (places_at 0 p.edition d)
  unfolding places_at whole_at body_places
  whole_record h s w es ew =
      let e = whole_placed h in
      rw (le-leb 1 p.edition h)
      (λ i.
      record {
        edition = p.edition;
        runtime = 4;
        stage = es i;
        resources = from_zero (ap (λ x. x.resources) e) i;
        resource_count = (e i).resource_count;
        resource_size = (e i).resource_size;
        strings = from_zero (ap (λ x. x.strings) e) i;
        string_bytes = (e i).string_bytes;
        indices = from_zero (ap (λ x. x.indices) e) i;
        index_count = (e i).index_count;
        elements = from_zero (ap (λ x. x.elements) e) i;
        element_count = (e i).element_count;
        element_size = (e i).element_size;
        masks = from_zero (ap (λ x. x.masks) e) i;
        mask_words = ew i;
      })
