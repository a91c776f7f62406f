-- The record of data that stand further on is that of the data alone, moved; and its numbers are small.
-- Assumes nothing.
use Prim.Native.Nat.{ℕ, ◌+◌, ◌≤◌}
use mathlib.Core.Path.{◌≡◌, refl}
use mathlib.Core.Bool.{Bool, true, false}
use mathlib.Core.List.{List}
use native.Mathlib.Omega.{arith}
use lib.Dec.{leb}
use lib.ListN.{length}
use borrow.Author.Tests.{leb-true}
use Rattle.wire.specs.Choice.{choose}
use Rattle.wire.specs.Verdict.{Accepted}
use Rattle.psv0_layout.specs.Judged.{opened}
use Rattle.psv0_layout.specs.Layout.{sections, edition_read_of}
use Rattle.places_layout.specs.Placed.{head_at, whole_at, places_at, moved_place, moved_by}
use Rattle.places_layout.proofs.Holding.{Holds, HoldsBody}
use Rattle.places_layout.proofs.Placing.{alone, places_hold}

module _ (k o : ℕ) (d : List ℕ) (j : opened k d ≡ Accepted) (room : o + length d ≤ 16777216) where
  abbrev er : ℕ
  er = edition_read_of k d

  holds : Holds (places_at 0 er d) d er (sections d)
  holds = places_hold (alone d) k j

  module _ (at n : ℕ) (l : 0 + at + n ≤ length d) where
    move : moved_place o (0 + at) ≡ o + at
    move = omega arith

    later_move : leb 1 er ≡ true → choose (leb 1 er) (moved_place o (0 + at)) (0 + at) ≡ o + at
    later_move c = rw c move

  whole_moved : leb 1 er ≡ true → Holds (whole_at 0 er d) d er (sections d) → moved_by o (whole_at 0 er d) ≡ whole_at o er d
  unfolding moved_by whole_at
  whole_moved c h =
      let g : HoldsBody (whole_at 0 er d) d (sections d) = h.body (leb-true 1 er c) in
      λ i.
      record {
        edition = er;
        runtime = move 4 _ h.runtime_fits i;
        stage = (whole_at o er d).stage;
        resources = move _ _ h.resources_fit i;
        resource_count = (whole_at o er d).resource_count;
        resource_size = (whole_at o er d).resource_size;
        strings = later_move _ _ g.strings_fit c i;
        string_bytes = (whole_at o er d).string_bytes;
        indices = later_move _ _ g.indices_fit c i;
        index_count = (whole_at o er d).index_count;
        elements = later_move _ _ g.elements_fit c i;
        element_count = (whole_at o er d).element_count;
        element_size = (whole_at o er d).element_size;
        masks = later_move _ _ g.masks_fit c i;
        mask_words = (whole_at o er d).mask_words;
      }

  head_moved : Holds (head_at 0 d) d er (sections d) → moved_by o (head_at 0 d) ≡ head_at o d
  unfolding moved_by head_at
  head_moved h =
      λ i.
      record {
        edition = 0;
        runtime = move 4 _ h.runtime_fits i;
        stage = 0;
        resources = move _ _ h.resources_fit i;
        resource_count = (head_at o d).resource_count;
        resource_size = (head_at o d).resource_size;
        strings = 0;
        string_bytes = 0;
        indices = 0;
        index_count = 0;
        elements = 0;
        element_count = 0;
        element_size = 0;
        masks = 0;
        mask_words = (head_at o d).mask_words;
      }

  pub moved_places : moved_by o (places_at 0 er d) ≡ places_at o er d
  unfolding places_at
  moved_places = go (leb 1 er) refl holds
    where
      go : (t : Bool) → leb 1 er ≡ t → Holds (choose t (whole_at 0 er d) (head_at 0 d)) d er (sections d)
          → moved_by o (choose t (whole_at 0 er d) (head_at 0 d)) ≡ choose t (whole_at o er d) (head_at o d)
      go true c h = whole_moved c h
      go false c h = head_moved h
