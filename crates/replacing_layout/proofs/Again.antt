-- A part that gets the data that it has: nothing changes.
-- Assumes nothing.
use Prim.Native.Nat.{ℕ, zero, suc, ◌+◌, ◌-◌, ◌*◌, ◌≤◌, ◌<◌}
use mathlib.Core.Path.{◌≡◌, refl}
use mathlib.Core.List.{List, ◌++◌}
use native.Mathlib.Omega.{arith}
use lib.ListN.{length, take, drop, take-append-drop}
use lib.Seq.{drop-drop, take-add}
use Rattle.wire.specs.Number.{u32_at, le32, Bytes}
use Rattle.wire.specs.Verdict.{Accepted}
use Rattle.wire.proofs.Numbers.{read_bytes}
use Rattle.part_table_layout.specs.Table.{count_of, offset_at, offset_bytes, size_at, data_at, end_at, table_judged}
use Rattle.part_table_layout.proofs.Accepted.{data_length}
use Rattle.replacing_layout.specs.Replaced.{moved, moved_from, replaced_at}
use Rattle.replacing_layout.proofs.Places.{around}

-- a stretch and what follows it
join : (b : List ℕ) (p w q : ℕ) → p + w ≡ q → take w (drop p b) ++ drop q b ≡ drop p b
join b p w q e = rw (← e, ← drop-drop w p b) (take-append-drop w (drop p b))

module _ (b : List ℕ) (bytes : Bytes b) (i : ℕ) (t : table_judged b ≡ Accepted) (h : i < count_of b) where
  abbrev new : List ℕ
  new = data_at b i

  same : (x : ℕ) → moved b i (length (data_at b i)) x ≡ x
  same x = rw (data_length b t i h) (omega arith)

  offsets_same : (k m : ℕ) → 32 + 4 * k + 4 * m ≤ length b → moved_from b i (length (data_at b i)) k m ≡ take (4 * m) (drop (32 + 4 * k) b)
  unfolding offset_bytes offset_at
  offsets_same k zero l = refl
  offsets_same k (suc m) l =
      let e : 4 * suc m ≡ 4 + 4 * m = omega arith in
      let f : 32 + 4 * suc k ≡ 32 + 4 * k + 4 = omega arith in
      let w : le32 (u32_at b (32 + 4 * k)) ≡ take 4 (drop (32 + 4 * k) b) = read_bytes b (32 + 4 * k) bytes (omega arith) in
      rw (same (u32_at b (32 + 4 * k)), w, offsets_same (suc k) m (omega arith), e, f, take-add 4 (4 * m) (drop (32 + 4 * k) b), drop-drop)

  -- "replacing" by the data that are there gives the container itself
  pub replaced_again : replaced_at b i (data_at b i) ≡ b
  unfolding replaced_at
  replaced_again =
      let a = around b i new t h in
      let n = count_of b in
      let o = offset_at b i in
      let p = a.part in
      let q = a.table in
      let long = data_length b t i h in
      let few : 32 + 4 * n ≤ length b = omega arith in
      let s7 : new ++ drop (end_at b i) b ≡ drop (o + 8) b = unfold data_at end_at in join b (o + 8) (size_at b i) _ refl in
      let w6 : le32 (length new) ≡ take 4 (drop (o + 4) b) = rw long (unfold size_at in read_bytes b (o + 4) bytes (omega arith)) in
      let s6 : take 4 (drop (o + 4) b) ++ drop (o + 8) b ≡ drop (o + 4) b = join b (o + 4) 4 (o + 8) (omega arith) in
      let s5 : take (o + 4 - (32 + 4 * n)) (drop (32 + 4 * n) b) ++ drop (o + 4) b ≡ drop (32 + 4 * n) b =
      join b (32 + 4 * n) (o + 4 - (32 + 4 * n)) (o + 4) (omega arith) in
      let w4 : moved_from b i (length new) (suc i) (n - suc i) ≡ take (4 * (n - suc i)) (drop (32 + 4 * suc i) b) = offsets_same (suc i) (n - suc i) (omega arith) in
      let s4 : take (4 * (n - suc i)) (drop (32 + 4 * suc i) b) ++ drop (32 + 4 * n) b ≡ drop (32 + 4 * suc i) b =
      join b (32 + 4 * suc i) (4 * (n - suc i)) (32 + 4 * n) (omega arith) in
      let s3 : take (8 + 4 * i) (drop 28 b) ++ drop (32 + 4 * suc i) b ≡ drop 28 b = join b 28 (8 + 4 * i) (32 + 4 * suc i) (omega arith) in
      let w2 : le32 (moved b i (length new) (length b)) ≡ take 4 (drop 24 b) = rw (same (length b), ← a.sized) (read_bytes b 24 bytes (omega arith)) in
      let s2 : take 4 (drop 24 b) ++ drop 28 b ≡ drop 24 b = join b 24 4 28 refl in
      rw (s7, w6, s6, s5, w4, s4, s3, w2, s2) (take-append-drop 24 b)
