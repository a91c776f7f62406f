-- By a record that holds, the bytes of every section are those that a reading hands out.
-- Assumes nothing.
use Prim.Native.Nat.{ℕ, ◌+◌, ◌≤◌}
use mathlib.Core.Path.{◌≡◌, refl, ◌∙◌, ap}
use mathlib.Core.Bool.{Bool, true, false}
use mathlib.Core.List.{List, []}
use native.Mathlib.Omega.{arith}
use lib.Dec.{leb}
use lib.ListN.{length, take, drop}
use borrow.Author.Tests.{le-leb, leb-true}
use Rattle.wire.specs.Choice.{choose}
use Rattle.psv0_layout.specs.Handed.{Section, runtime_record, resource_records, string_table, index_table, element_records, masks, from_one, handed}
use Rattle.psv0_layout.specs.Layout.{sections}
use Rattle.psv0_layout.specs.Shown.{view}
use Rattle.places_layout.specs.declared.SectionPlaces.{SectionPlaces}
use Rattle.places_layout.specs.Handed.{later_by, start_by, length_by, stretch_in, handed_by}
use Rattle.places_layout.specs.Read.{given}
use Rattle.places_layout.proofs.Holding.{Holds}

whole : (b : List ℕ) (at n : ℕ) (l : List ℕ) → take n (drop at b) ≡ l → at + n ≤ length b → stretch_in b at n ≡ given (view l)
whole b at n l e h = rw (le-leb _ _ h, e)

later : (b : List ℕ) (er at n : ℕ) (l : List ℕ) → (1 ≤ er → (take n (drop at b) ≡ l) × (at + n ≤ length b))
    → stretch_in b (later_by er at) (later_by er n) ≡ given (view (from_one er l))
later b er at n l f = go (leb 1 er) (leb-true 1 er)
  where
    go : (t : Bool) → (t ≡ true → 1 ≤ er) → stretch_in b (choose t at 0) (choose t n 0) ≡ given (view (choose t l []))
    go true h = whole b at n l (f (h refl)).0 (f (h refl)).1
    go false h = whole b 0 0 [] refl (omega arith)

module _ {p : SectionPlaces} {b : List ℕ} {er : ℕ} (d : List ℕ) (h : Holds p b er (sections d)) where
  at_edition : (t : Section) → stretch_in b (start_by p er t) (length_by p er t) ≡ given (view (handed er d t))
  unfolding start_by length_by handed
  at_edition runtime_record = whole b _ _ _ h.runtime h.runtime_fits
  at_edition resource_records = whole b _ _ _ h.resources h.resources_fit
  at_edition string_table = later b er _ _ _ (λ l. ((h.body l).strings, (h.body l).strings_fit))
  at_edition index_table = later b er _ _ _ (λ l. ((h.body l).indices, (h.body l).indices_fit))
  at_edition element_records = later b er _ _ _ (λ l. ((h.body l).elements, (h.body l).elements_fit))
  at_edition masks = later b er _ _ _ (λ l. ((h.body l).masks, (h.body l).masks_fit))

  pub handed_same : (t : Section) → handed_by p b t ≡ given (view (handed er d t))
  unfolding handed_by
  handed_same t = ap (λ (e : ℕ). stretch_in b (start_by p e t) (length_by p e t)) h.edition ∙ at_edition t
