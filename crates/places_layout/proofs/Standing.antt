-- What a program that answers by a record needs: the answer, case by case, and what stands at the recorded places. Of any record and bytes.
-- Assumes nothing.
use Prim.Native.Nat.{ℕ, ◌+◌, ◌*◌, ◌≤◌, ◌<◌}
use mathlib.Core.Path.{◌≡◌, refl, ◌∙◌}
use mathlib.Core.Bool.{Bool, true, false}
use mathlib.Core.List.{List, []}
use lib.Dec.{leb}
use lib.ListN.{get_or, take, drop}
use lib.Seq.{drop-drop}
use borrow.Author.Tests.{le-leb, lt-leb}
use Rattle.wire.specs.Choice.{choose}
use Rattle.psv0_layout.specs.Layout.{resource_width}
use Rattle.psv0_layout.specs.Shown.{Question, needs, value}
use Rattle.psv0_layout.proofs.Positions.{rows_at}
use Rattle.places_layout.specs.Read.{body_by, seen_by, source_of, is_there, readable, value_by, given, refusal, answered_from, answered_by}
use Rattle.places_layout.specs.declared.SectionPlaces.{SectionPlaces}

module _ (p : SectionPlaces) (b : List ℕ) (q : Question) where
  -- 26: the edition read does not reach it, or it is not there
  pub too_early : p.edition < needs q → answered_by p b q ≡ refusal 26
  unfolding answered_by
  too_early h = rw (lt-leb _ _ h)

  pub not_there : is_there p (source_of p q) ≡ false → answered_by p b q ≡ refusal 26
  unfolding answered_by answered_from
  not_there e = rw e (go (leb (needs q) p.edition))
    where
      go : (t : Bool) → choose t (refusal 26) (refusal 26) ≡ refusal 26
      go true = refl
      go false = refl

  module _ (h : needs q ≤ p.edition) (e : is_there p (source_of p q) ≡ true) where
    -- 29
    pub outside : readable p b (source_of p q) ≡ false → answered_by p b q ≡ refusal 29
    unfolding answered_by answered_from
    outside f = rw (le-leb _ _ h, e, f)

    pub reads : readable p b (source_of p q) ≡ true
        → answered_by p b q ≡ given (value_by p b (source_of p q) (seen_by p b (needs q)) (value q (seen_by p b (needs q))))
    unfolding answered_by answered_from
    reads f = rw (le-leb _ _ h, e, f)

-- ---- what stands at the places
module _ (p : SectionPlaces) (b : List ℕ) where
  pub resource_row : (e i : ℕ) → i < p.resource_count
      → get_or (seen_by p b e).resources i [] ≡ take (resource_width e p.resource_size) (drop (p.resources + i * p.resource_size) b)
  unfolding seen_by
  resource_row e i h = rows_at _ p.resource_count p.resource_size (drop p.resources b) i h ∙ rw drop-drop

  pub element_row : (i : ℕ) → i < p.element_count
      → get_or (body_by p b).elements i [] ≡ take 16 (drop (p.elements + i * p.element_size) b)
  unfolding body_by
  element_row i h = rows_at 16 p.element_count p.element_size (drop p.elements b) i h ∙ rw drop-drop
