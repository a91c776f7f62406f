-- Document 02, Ask 8: the bytes of a container that passes, all of them accounted for.
-- Assumes nothing.
use Prim.Native.Nat.{ℕ, zero, suc, ◌+◌, ◌*◌, ◌≤◌, ◌<◌}
use mathlib.Core.Path.{◌≡◌}
use mathlib.Core.List.{List}
use native.Mathlib.Omega.{arith}
use lib.ListN.{length}
use Rattle.wire.specs.Sum.{sum_below}
use Rattle.wire.specs.Verdict.{Accepted}
use Rattle.part_table_layout.specs.Table.{count_of, size_at, end_at, earliest, gap_at, table_judged, after_parts, accounted}
use Rattle.part_table_layout.proofs.Accepted.{Fits, accepted_told}

module _ (b : List ℕ) (h : table_judged b ≡ Accepted) where
  fits : (k : ℕ) → k < count_of b → Fits b k
  fits = (accepted_told b h).fits

  -- up to part k
  sum_to : (k : ℕ) → k ≤ count_of b → 32 + 4 * count_of b + sum_below (gap_at b) k + sum_below (λ i. 8 + size_at b i) k ≡ earliest b k
  unfolding gap_at earliest end_at sum_below
  sum_to zero l = omega arith
  sum_to (suc k) l =
      let r = sum_to k (omega arith) in
      let s = (fits k l).start in
      omega arith

  pub last_inside : earliest b (count_of b) ≤ length b
  unfolding earliest
  last_inside = go (count_of b) (λ k l. (fits k l).inside) (accepted_told b h).header.room
    where
      go : (n : ℕ) → ((k : ℕ) → k < n → end_at b k ≤ length b) → 32 + 4 * count_of b ≤ length b → earliest b n ≤ length b
      go zero f r = r
      go (suc n) f r = f n (omega arith)

  -- "the gaps, the part headers and data, the header, the offset table and the bytes after the last part .. sum to the file's length"
  pub sum_is_length : accounted b ≡ length b
  unfolding accounted after_parts
  sum_is_length =
      let s = sum_to (count_of b) (omega arith) in
      let l = last_inside in
      omega arith
