-- What stands at each place of a container whose part i got other data.
-- Assumes nothing.
use Prim.Native.Nat.{ℕ, suc, ◌+◌, ◌-◌, ◌*◌, ◌≤◌, ◌<◌}
use mathlib.Core.Path.{◌≡◌, refl, sym, ◌∙◌, ap}
use mathlib.Core.List.{List, ◌++◌}
use native.Mathlib.Omega.{arith}
use lib.ListN.{length, take, drop, length-append, length-drop}
use lib.Seq.{length-take-le, take_at, drop_at}
use Rattle.wire.specs.Number.{u32_at, le32}
use Rattle.wire.specs.Verdict.{Accepted}
use Rattle.wire.proofs.Numbers.{le32_length, u32_drop}
use Rattle.part_table_layout.specs.Table.{count_of, offset_at, name_at, size_at, data_at, end_at, table_judged}
use Rattle.part_table_layout.proofs.Accepted.{accepted_told, part_inside, part_after_table, parts_apart}
use Rattle.part_table_layout.proofs.Laid.{rest_at, part_at, word_at, offsets_length, offset_in}
use Rattle.replacing_layout.specs.Replaced.{moved, moved_offset, moved_from, replaced_at}
use Rattle.replacing_layout.proofs.Stretches.{part_length, alike, alike_u32, shifted, shifted_u32}

module _ (b : List ℕ) (i : ℕ) (new : List ℕ) where
  -- ---- in an accepted container with a part i
  module _ (t : table_judged b ≡ Accepted) (h : i < count_of b) where
    abbrev r : List ℕ
    r = replaced_at b i new

    abbrev n : ℕ
    n = count_of b

    abbrev o : ℕ
    o = offset_at b i

    -- where things stand in b
    pub record Around : Type 0 where
      pub few : n ≤ 96
      pub long : 32 ≤ length b
      pub short : length b ≤ 16777216
      pub sized : u32_at b 24 ≡ length b
      pub table : 32 + 4 * n ≤ o
      pub part : o + 8 + size_at b i ≤ length b

    pub around : Around
    around =
        let s = (accepted_told b t).header in
        record {
          few = s.few;
          long = s.long;
          short = s.short;
          sized = s.sized;
          table = part_after_table b t i h;
          part = part_inside b t i h;
        }

    -- ---- stretch after stretch
    abbrev names : List ℕ
    names = take (o + 4 - (32 + 4 * n)) (drop (32 + 4 * n) b)

    abbrev tail : List ℕ
    tail = drop (end_at b i) b

    abbrev kept : List ℕ
    kept = take (8 + 4 * i) (drop 28 b)

    abbrev offsets : List ℕ
    offsets = moved_from b i (length new) (suc i) (n - suc i)

    long24 : length (take 24 b) ≡ 24
    long24 = let a = around in length-take-le 24 b (omega arith)

    long_kept : length (take (8 + 4 * i) (drop 28 b)) ≡ 8 + 4 * i
    long_kept = let a = around in part_length b 28 (8 + 4 * i) (omega arith)

    long_names : length (take (o + 4 - (32 + 4 * n)) (drop (32 + 4 * n) b)) ≡ o + 4 - (32 + 4 * n)
    long_names = let a = around in part_length b (32 + 4 * n) (o + 4 - (32 + 4 * n)) (omega arith)

    at_file : drop 24 r ≡ le32 (moved b i (length new) (length b)) ++ (kept ++ (offsets ++ (names ++ (le32 (length new) ++ (new ++ tail)))))
    unfolding replaced_at
    at_file = drop_at (take 24 b) _ 24 long24

    at_count : drop 28 r ≡ kept ++ (offsets ++ (names ++ (le32 (length new) ++ (new ++ tail))))
    at_count = rest_at r 24 (le32 (moved b i (length new) (length b))) _ at_file 4 (le32_length (moved b i (length new) (length b)))

    at_moved : drop (36 + 4 * i) r ≡ offsets ++ (names ++ (le32 (length new) ++ (new ++ tail)))
    at_moved =
        let e : 28 + (8 + 4 * i) ≡ 36 + 4 * i = omega arith in
        rw e at (rest_at r 28 kept _ at_count (8 + 4 * i) long_kept)

    at_parts : drop (32 + 4 * n) r ≡ names ++ (le32 (length new) ++ (new ++ tail))
    at_parts =
        let e : 36 + 4 * i + 4 * (n - suc i) ≡ 32 + 4 * n = omega arith in
        rw e at (rest_at r (36 + 4 * i) offsets _ at_moved (4 * (n - suc i)) (offsets_length (moved_offset b i (length new)) (suc i) (n - suc i)))

    at_size : drop (o + 4) r ≡ le32 (length new) ++ (new ++ tail)
    at_size =
        let a = around in
        let e : 32 + 4 * n + (o + 4 - (32 + 4 * n)) ≡ o + 4 = omega arith in
        rw e at (rest_at r (32 + 4 * n) names _ at_parts (o + 4 - (32 + 4 * n)) long_names)

    at_data : drop (o + 8) r ≡ new ++ tail
    at_data =
        let e : o + 4 + 4 ≡ o + 8 = omega arith in
        rw e at (rest_at r (o + 4) (le32 (length new)) _ at_size 4 (le32_length (length new)))

    pub at_tail : drop (o + 8 + length new) (replaced_at b i new) ≡ drop (end_at b i) b
    at_tail = rest_at r (o + 8) new tail at_data (length new) refl

    -- ---- what is as it was
    pub front_alike : take 24 (drop 0 (replaced_at b i new)) ≡ take 24 (drop 0 b)
    unfolding replaced_at
    front_alike = take_at (take 24 b) _ 24 long24

    pub head_alike : take (8 + 4 * i) (drop 28 (replaced_at b i new)) ≡ take (8 + 4 * i) (drop 28 b)
    head_alike = part_at r 28 kept _ at_count (8 + 4 * i) long_kept

    pub names_alike : take (o + 4 - (32 + 4 * n)) (drop (32 + 4 * n) (replaced_at b i new)) ≡ take (o + 4 - (32 + 4 * n)) (drop (32 + 4 * n) b)
    names_alike = part_at r (32 + 4 * n) names _ at_parts (o + 4 - (32 + 4 * n)) long_names

    -- ---- the length
    pub replaced_length : length (replaced_at b i new) ≡ moved b i (length new) (length b)
    unfolding replaced_at end_at
    replaced_length =
        let a = around in
        simp (length-append, le32_length, offsets_length, long24, long_kept, long_names, length-drop) (omega arith)

    -- ---- the header
    pub count_same : count_of (replaced_at b i new) ≡ count_of b
    unfolding count_of
    count_same = alike_u32 r b 28 (8 + 4 * i) head_alike 28 (omega arith) (omega arith)

    pub offset_before : (k : ℕ) → k ≤ i → offset_at (replaced_at b i new) k ≡ offset_at b k
    unfolding offset_at
    offset_before k g = alike_u32 r b 28 (8 + 4 * i) head_alike (32 + 4 * k) (omega arith) (omega arith)

    -- ---- where the result is no longer than a container may be
    module _ (short : moved b i (length new) (length b) ≤ 16777216) where
      pub file_size_lem : u32_at (replaced_at b i new) 24 ≡ moved b i (length new) (length b)
      file_size_lem = word_at r 24 (moved b i (length new) (length b)) _ at_file (omega arith)

      module _ (k : ℕ) (g : i < k) (l : k < count_of b) where
        abbrev after_part : end_at b i ≤ offset_at b k
        after_part = parts_apart b t i k g l

        pub offset_after : offset_at (replaced_at b i new) k ≡ moved b i (length new) (offset_at b k)
        unfolding offset_at end_at
        offset_after =
            let a = around in
            let q = after_part in
            let p = part_inside b t k l in
            let e : suc i + (k - suc i) ≡ k = omega arith in
            let z : 36 + 4 * i + 4 * (k - suc i) ≡ 32 + 4 * k = omega arith in
            let m : moved b i (length new) (offset_at b (suc i + (k - suc i))) < 4294967296 = rw e (omega arith) in
            let s = offset_in (moved_offset b i (length new)) (suc i) (n - suc i) (k - suc i) (names ++ (le32 (length new) ++ (new ++ tail))) (omega arith) m in
            let u : u32_at (drop (36 + 4 * i) r) (4 * (k - suc i)) ≡ u32_at r (32 + 4 * k) = rw (← z) (u32_drop (36 + 4 * i) r (4 * (k - suc i))) in
            sym u ∙ rw (at_moved) (s ∙ rw e)

        pub after_name : name_at (replaced_at b i new) k ≡ name_at b k
        unfolding name_at end_at
        after_name =
            let q = after_part in
            rw offset_after (shifted_u32 r b (o + 8 + length new) (end_at b i) at_tail (moved b i (length new) (offset_at b k)) (offset_at b k) (omega arith) (omega arith))

        pub after_size : size_at (replaced_at b i new) k ≡ size_at b k
        unfolding size_at end_at
        after_size =
            let q = after_part in
            rw offset_after (shifted_u32 r b (o + 8 + length new) (end_at b i) at_tail (moved b i (length new) (offset_at b k) + 4) (offset_at b k + 4) (omega arith) (omega arith))

        pub after_data : data_at (replaced_at b i new) k ≡ data_at b k
        unfolding data_at end_at
        after_data =
            let q = after_part in
            rw (after_size, offset_after)
            (ap (take (size_at b k)) (shifted r b (o + 8 + length new) (end_at b i) at_tail (moved b i (length new) (offset_at b k) + 8) (offset_at b k + 8) (omega arith) (omega arith)))

      -- part i itself
      pub own_name : name_at (replaced_at b i new) i ≡ name_at b i
      unfolding name_at
      own_name =
          let a = around in
          rw (offset_before i (omega arith)) (alike_u32 r b (32 + 4 * n) (o + 4 - (32 + 4 * n)) names_alike o (omega arith) (omega arith))

      pub own_size : size_at (replaced_at b i new) i ≡ length new
      unfolding size_at
      own_size =
          let a = around in
          rw (offset_before i (omega arith)) (word_at r (o + 4) (length new) _ at_size (omega arith))

      pub own_data : data_at (replaced_at b i new) i ≡ new
      unfolding data_at
      own_data = rw (own_size, offset_before i (omega arith)) (part_at r (o + 8) new tail at_data (length new) refl)

    -- the parts before part i
    module _ (k : ℕ) (g : k < i) where
      apart : end_at b k ≤ o
      apart = parts_apart b t k i g h

      first : 32 + 4 * n ≤ offset_at b k
      first = part_after_table b t k (omega arith)

      pub before_name : name_at (replaced_at b i new) k ≡ name_at b k
      unfolding name_at end_at
      before_name =
          let q = apart in
          let f = first in
          rw (offset_before k (omega arith)) (alike_u32 r b (32 + 4 * n) (o + 4 - (32 + 4 * n)) names_alike (offset_at b k) f (omega arith))

      pub before_size : size_at (replaced_at b i new) k ≡ size_at b k
      unfolding size_at end_at
      before_size =
          let q = apart in
          let f = first in
          rw (offset_before k (omega arith)) (alike_u32 r b (32 + 4 * n) (o + 4 - (32 + 4 * n)) names_alike (offset_at b k + 4) (omega arith) (omega arith))

      pub before_data : data_at (replaced_at b i new) k ≡ data_at b k
      unfolding data_at end_at
      before_data =
          let q = apart in
          let f = first in
          rw (before_size, offset_before k (omega arith))
          (alike r b (32 + 4 * n) (o + 4 - (32 + 4 * n)) names_alike (offset_at b k + 8) (size_at b k) (omega arith) (omega arith))
