-- The runtime record: later sections go by its first 36 bytes, and in edition 0 by nothing.
-- Assumes nothing.
use Prim.Native.Nat.{ℕ, ◌≤◌}
use mathlib.Core.Path.{◌≡◌}
use mathlib.Core.Bool.{true}
use mathlib.Core.List.{List}
use native.Mathlib.Omega.{arith}
use lib.Dec.{ltb, leb}
use lib.ListN.{length, get_or, take, get_or-eq_default}
use lib.Seq.{get_or-take}
use borrow.Author.Tests.{ltb-true, leb-true}
use Rattle.constants.specs.Edition.{size_of}
use Rattle.psv0_layout.specs.Field.{element_total, mask_words_of, sum, mask_bytes_of}
use Rattle.psv0_layout.specs.Judged.{fields_judged}

module _ (r : List ℕ) where
  kept : (i : ℕ) → ltb i 36 ≡ true → get_or (take 36 r) i 0 ≡ get_or r i 0
  kept i h = get_or-take 36 r i 0 (ltb-true i 36 h)

  pub elements_kept : element_total (take (size_of 1) r) ≡ element_total r
  elements_kept = simp kept

  pub masks_kept : mask_bytes_of (take (size_of 1) r) ≡ mask_bytes_of r
  unfolding mask_words_of
  masks_kept = simp kept

  pub fields_kept : fields_judged (take (size_of 1) r) ≡ fields_judged r
  unfolding fields_judged
  fields_kept = simp kept

  -- a record that ends before edition 1's fields has no elements and no masks
  module _ (short : length r ≤ 24) where
    past : (i : ℕ) → leb 24 i ≡ true → get_or r i 0 ≡ 0
    past i h = let l = leb-true 24 i h in get_or-eq_default r 0 (omega arith)

    pub no_elements : element_total r ≡ 0
    no_elements = simp past

    pub no_masks : mask_bytes_of r ≡ 0
    unfolding mask_words_of sum
    no_masks = simp past
