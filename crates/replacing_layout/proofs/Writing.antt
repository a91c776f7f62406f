-- The laws of the code that writes the result, stretch after stretch.
-- Assumes nothing.
use Prim.Native.Nat.{ℕ, suc, ◌+◌, ◌-◌, ◌*◌, ◌≤◌, ◌<◌}
use mathlib.Core.Path.{◌≡◌, refl, ◌∙◌}
use mathlib.Core.List.{List, ◌++◌, append_assoc}
use native.Mathlib.Numerals.{add-one}
use native.Mathlib.Omega.{arith}
use lib.ListN.{length, take, drop, length-drop, length-append}
use lib.Seq.{take_all, length-take-le, take-take, take-add, drop_at}
use Rattle.wire.specs.Number.{u32_at, le32, placed}
use Rattle.wire.specs.Verdict.{Accepted}
use Rattle.wire.proofs.Numbers.{le32_length, placed_in}
use Rattle.wire.proofs.Stretches.{Written, none_written, written_more, written_number, rest_copied}
use Rattle.wire.specs.Stretch.{copied}
use Rattle.part_table_layout.specs.Table.{count_of, offset_at, size_at, end_at, table_judged}
use Rattle.part_table_layout.proofs.Accepted.{accepted_told, part_inside, part_after_table, parts_apart}
use Rattle.part_table_layout.proofs.Laid.{offsets_length, offsets_grow}
use Rattle.replacing_layout.specs.Answer.{Replaceable}
use Rattle.replacing_layout.specs.Replaced.{moved, moved_offset, moved_from, replaced_at}
use Rattle.replacing_layout.proofs.Stretches.{part_length}

pub replaceable : (b : List ℕ) (i n : ℕ) → table_judged b ≡ Accepted → i < count_of b → moved b i n (length b) ≤ 16777216
    → Replaceable b i (offset_at b i) (size_at b i) n
replaceable b i n t l s =
    let h = (accepted_told b t).header in
    record {
      table = t;
      listed = l;
      placed = refl;
      sized = refl;
      few = h.few;
      after = part_after_table b t i l;
      inside = part_inside b t i l;
      long = h.short;
      short = s;
    }

module _ {b : List ℕ} {i at size n : ℕ} (f : Replaceable b i at size n) where
  -- the j-th offset after that of part i, v: that part starts past the data of part i, and where it starts then is within the limit
  pub record Later (v : ℕ) : Type 0 where
    pub past : size ≤ v
    pub fits : v + n - size ≤ 16777216

  offset_at_lem : (j : ℕ) → u32_at b (36 + 4 * i + 4 * j) ≡ offset_at b (suc i + j)
  unfolding offset_at
  offset_at_lem j = let z : 36 + 4 * i + 4 * j ≡ 32 + 4 * (suc i + j) = omega arith in rw z

  pub later : (j : ℕ) {v : ℕ} → j < count_of b - suc i → v ≡ u32_at b (36 + 4 * i + 4 * j) → Later v
  unfolding end_at
  later j l e =
      let k = offset_at_lem j in
      let q = parts_apart b f.table i (suc i + j) (omega arith) (omega arith) in
      let p = part_inside b f.table (suc i + j) (omega arith) in
      let o = f.placed in
      let z = f.sized in
      record { past = omega arith; fits = omega arith }

  -- ---- the offsets, one after the other
  module _ {o x : List ℕ} (room : length o ≡ 4 * (count_of b - suc i)) (j : ℕ) (w : Written o (moved_from b i n (suc i) j) (4 * j) x) where
    pub offset_more : {v : ℕ} {y : List ℕ} → j < count_of b - suc i → v ≡ u32_at b (36 + 4 * i + 4 * j) → y ≡ placed x (4 * j) (le32 (v + n - size))
        → Written o (moved_from b i n (suc i) (j + 1)) (4 * (j + 1)) y
    offset_more {v} h e q =
        let d : v + n - size ≡ moved b i n (offset_at b (suc i + j)) = rw (e, offset_at_lem j, f.sized) in
        let l = le32_length (moved b i n (offset_at b (suc i + j))) in
        rw (add-one j, offsets_grow) (written_number w _ (4 * suc j) (omega arith) (omega arith) (rw d at q))

-- the bytes up to h with v in the place of the file size
pub head_is : (b : List ℕ) (h n : ℕ) (v : List ℕ) → 28 + n ≡ h → h ≤ length b → length v ≡ 4 → placed (take h b) 24 v ≡ take 24 b ++ (v ++ take n (drop 28 b))
head_is b h n v e l four =
    let long : length (take h b) ≡ h = length-take-le h b l in
    let room : 24 + length v ≤ length (take h b) = omega arith in
    let rest : drop 28 (take h b) ≡ take n (drop 28 b) =
    rw (← e, take-add 28 n b) (drop_at (take 28 b) (take n (drop 28 b)) 28 (length-take-le 28 b (omega arith))) in
    placed_in (take h b) 24 v room ∙ rw (four, rest, take-take 24 h b (omega arith))

-- ---- the whole result, in an output that held o and is exactly as long
module _ (o new : List ℕ) {b : List ℕ} {i at size : ℕ} (f : Replaceable b i at size (length new)) (room : length o ≡ length b + length new - size) where
  abbrev head : List ℕ
  head = take 24 b ++ (le32 (length o) ++ take (8 + 4 * i) (drop 28 b))

  abbrev offsets : List ℕ
  offsets = moved_from b i (length new) (suc i) (count_of b - suc i)

  pub head_written : {y : List ℕ} → y ≡ placed (take (36 + 4 * i - 0) b) 24 (le32 (length o))
      → Written o head (36 + 4 * i) (take 0 o ++ (y ++ drop (36 + 4 * i - 0) (drop 0 o)))
  head_written q =
      let l = f.listed in
      let v = le32_length (length o) in
      let n : length (take 24 b) ≡ 24 = length-take-le 24 b (omega arith) in
      let k : length (take (8 + 4 * i) (drop 28 b)) ≡ 8 + 4 * i = part_length b 28 (8 + 4 * i) (omega arith) in
      written_more (none_written o) (36 + 4 * i) (omega arith) head (q ∙ head_is b (36 + 4 * i - 0) (8 + 4 * i) (le32 (length o)) (omega arith) (omega arith) v)
      (simp length-append (omega arith))

  -- the part count was read as r
  module _ {r : ℕ} (e : r ≡ u32_at b 28) where
    abbrev kept : List ℕ
    kept = take (at + 4 - (32 + 4 * r)) (drop (32 + 4 * r) b)

    pub count_is : r ≡ count_of b
    unfolding count_of
    count_is = e

    pub offsets_written : {x y : List ℕ} → Written o head (36 + 4 * i) x → y ≡ offsets
        → Written o (head ++ offsets) (32 + 4 * r) (take (36 + 4 * i) x ++ (y ++ drop (32 + 4 * r - (36 + 4 * i)) (drop (36 + 4 * i) x)))
    offsets_written w q =
        let c = count_is in
        let l = f.listed in
        written_more w (32 + 4 * r) (omega arith) offsets q (offsets_length (moved_offset b i (length new)) (suc i) (count_of b - suc i) ∙ omega arith)

    pub part_written : {x y : List ℕ} → Written o (head ++ offsets) (32 + 4 * r) x → y ≡ kept ++ (le32 (length new) ++ new)
        → Written o ((head ++ offsets) ++ (kept ++ (le32 (length new) ++ new))) (at + 8 + length new)
        (take (32 + 4 * r) x ++ (y ++ drop (at + 8 + length new - (32 + 4 * r)) (drop (32 + 4 * r) x)))
    part_written w q =
        let c = count_is in
        let v = le32_length (length new) in
        let k : length kept ≡ at + 4 - (32 + 4 * r) = part_length b (32 + 4 * r) _ (omega arith) in
        written_more w (at + 8 + length new) (omega arith) _ q (simp length-append (omega arith))

    pub all_laid : {x y : List ℕ} → Written o ((head ++ offsets) ++ (kept ++ (le32 (length new) ++ new))) (at + 8 + length new) x
        → y ≡ copied (take (length x - (at + 8 + length new)) (drop (at + 8 + length new) x)) (take (length b - (at + 8 + size)) (drop (at + 8 + size) b))
        → take (at + 8 + length new) x ++ (y ++ drop (length x - (at + 8 + length new)) (drop (at + 8 + length new) x)) ≡ replaced_at b i new
    unfolding replaced_at end_at
    all_laid w q =
        let c = count_is in
        let t : take (length b - (at + 8 + size)) (drop (at + 8 + size) b) ≡ drop (at + 8 + size) b = take_all (length b - (at + 8 + size)) (drop (at + 8 + size) b) (rw length-drop (omega arith)) in
        rest_copied w (omega arith) _ (rw t (rw length-drop (omega arith))) q
        ∙ rw (t, room, f.placed, f.sized, c) (simp append_assoc)
