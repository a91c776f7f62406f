-- The sections of a container at what the code has written.
-- Assumes nothing.
use Prim.Native.Nat.{ℕ, zero, suc, ◌+◌, ◌-◌, ◌*◌, ◌≤◌, ◌<◌}
use mathlib.Core.Path.{◌≡◌, refl, sym, ◌∙◌}
use mathlib.Core.List.{List, [], ◌++◌, append_assoc, append-nil}
use native.Mathlib.Numerals.{add-one}
use native.Mathlib.Omega.{arith}
use lib.ListN.{length, take, drop, replicate, length-append, length-drop, take-append-drop, drop_of_length-le}
use lib.Seq.{length-take-le}
use Rattle.wire.specs.Number.{le16, le32, placed}
use Rattle.wire.proofs.Numbers.{le16_length, le32_length}
use Rattle.wire.proofs.Stretches.{Written, lent_length, written_more, written_number, all_written}
use Rattle.part_table_layout.specs.Table.{magic, offset_bytes}
use Rattle.part_table_layout.proofs.Laid.{offsets_length}
use Rattle.assembler_layout.specs.Assembled.{Parts, part_count, size_given, round_up, end_before, start_of, file_length, name_bytes, data_given, offsets_from, part_bytes, parts_from, total, assembled}
use Rattle.assembler_layout.proofs.Lengths.{Right, right_told, total_more, total_front, round_up_lem, end_of, ends_grow, end_of_table, part_length}
use Rattle.assembler_layout.proofs.Places.{offsets_more, parts_more}
use Rattle.assembler_layout.specs.Answer.{Passed, sized, header_bytes, front_bytes}
use Rattle.assembler_layout.proofs.Checks.{ends_agree}

-- the loop that clears has come to the end
pub fill_all : (o : List ℕ) (v i : ℕ) → i ≡ length o → replicate i v ++ drop i o ≡ replicate (length o) v
fill_all o v i h =
    let d : drop (length o) o ≡ [] = drop_of_length-le o {i = length o} (omega arith) in
    rw (h, d, append-nil)

-- ---- where parts start and end
pub round_up_most : (n : ℕ) → round_up n ≤ n + 3
round_up_most n = omega arith

pub end_next : (g : Parts) (k : ℕ) → round_up (end_before g k) + 8 + size_given g k ≡ end_before g (k + 1)
end_next g k = rw add-one (sym (end_of g k))

pub end_inside : (g : Parts) {k : ℕ} → k ≤ part_count g → end_before g k ≤ file_length g
end_inside g {k} h = ends_grow g k (part_count g) h

pub table_inside : (g : Parts) → 32 + 4 * part_count g ≤ file_length g
table_inside g = let e = end_of_table g in let l = ends_grow g 0 (part_count g) (omega arith) in omega arith

-- part i, where the parts below it end at end
pub record StartFits (g : Parts) (i end : ℕ) : Type 0 where
  pub after : end ≤ round_up end
  pub inside : round_up end + 8 + size_given g i ≤ file_length g
  pub short : file_length g ≤ 16777216

pub start_fits : (g : Parts) {i end : ℕ} → file_length g ≤ 16777216 → i < part_count g → end ≡ end_before g i → StartFits g i end
start_fits g {i} {end} s h e =
    let n = end_of g i in
    let l = ends_grow g (suc i) (part_count g) h in
    record { after = (round_up_lem end).0; inside = omega arith; short = s }

-- ---- what was written, section after section
regroup : (a b c d e f : List ℕ) → ((((a ++ b) ++ c) ++ d) ++ e) ++ f ≡ a ++ (b ++ (c ++ (d ++ (e ++ f))))
regroup a b c d e f = simp append_assoc

pub header_is : (d : List ℕ) (len n : ℕ) → ((((magic ++ d) ++ le16 1) ++ le16 0) ++ le32 len) ++ le32 n ≡ header_bytes d len n
unfolding header_bytes
header_is d len n = regroup magic d (le16 1) (le16 0) (le32 len) (le32 n)

pub header_length : (d : List ℕ) (len n : ℕ) → length d ≡ 16 → length (header_bytes d len n) ≡ 32
unfolding header_bytes
header_length d len n h = simp (length-append, le16_length, le32_length) (omega arith)

pub part_is : (a b c d : List ℕ) → ((a ++ b) ++ c) ++ d ≡ a ++ (b ++ (c ++ d))
part_is a b c d = simp append_assoc

pub front_length : (d s : List ℕ) (len : ℕ) → length d ≡ 16 → length (front_bytes d len s) ≡ 32 + 4 * length s
unfolding front_bytes
front_length d s len h = simp (length-append, header_length d len (length s) h, offsets_length) refl

-- the offsets of the parts below i have been written
module _ (g : Parts) {o x : List ℕ} (room : length o ≡ 4 * part_count g) (i : ℕ) (w : Written o (offsets_from g 0 i) (4 * i) x) where
  pub offset_more : {s : ℕ} {y : List ℕ} → i < part_count g → s ≡ start_of g i → y ≡ placed x (4 * i) (le32 s)
      → Written o (offsets_from g 0 (i + 1)) (4 * (i + 1)) y
  offset_more {s} h e q =
      let l = le32_length (start_of g i) in
      rw offsets_more (written_number w (le32 (start_of g i)) (4 * (i + 1)) (omega arith) (omega arith) (rw e at q))

  pub all_offsets : i ≡ part_count g → x ≡ offsets_from g 0 (part_count g)
  all_offsets e = rw (← e) (all_written w (omega arith))

-- ---- part i, where the parts below it end at end and their data at from
pub record PartFits (g : Parts) (i end from : ℕ) : Type 0 where
  pub starts : StartFits g i end
  pub named : 4 * i + 4 ≤ length g.names
  pub filled : from + size_given g i ≤ length g.bytes

pub part_fits : (g : Parts) {room i end from : ℕ} → Passed g room → i < part_count g → end ≡ end_before g i → from ≡ total (take i g.sizes) → PartFits g i end from
part_fits g {room} {i} {end} {from} r h e f =
    let t = right_told g r.right in
    let n = t.named in
    let s = t.summed in
    let m = total_more g.sizes i h in
    let k = total_front g.sizes (suc i) in
    record {
      starts = start_fits g r.short h e;
      named = omega arith;
      filled = omega arith;
    }

pub data_next : (g : Parts) (i : ℕ) {from : ℕ} → i < part_count g → from ≡ total (take i g.sizes) → from + size_given g i ≡ total (take (i + 1) g.sizes)
data_next g i h e = let m = total_more g.sizes i h in rw (add-one i) (omega arith)

pub part_lengths : (g : Parts) {o f x : List ℕ} {i end from : ℕ} → PartFits g i end from → Written o f end x → length o ≡ file_length g
    → (length (take (round_up end + 8 + size_given g i - end) (drop end x)) ≡ round_up end - end + 8 + length (take (from + size_given g i - from) (drop from g.bytes)))
    × (length (take (4 * i + 4 - 4 * i) (drop (4 * i) g.names)) ≡ 4)
part_lengths g {o} {f} {x} {i} {end} {from} fit w h =
    let a = lent_length w (round_up end + 8 + size_given g i) (omega arith) (omega arith) in
    let b : length (take (from + size_given g i - from) (drop from g.bytes)) ≡ from + size_given g i - from =
    length-take-le _ (drop from g.bytes) (rw length-drop (omega arith)) in
    let c : length (take (4 * i + 4 - 4 * i) (drop (4 * i) g.names)) ≡ 4 * i + 4 - 4 * i =
    length-take-le _ (drop (4 * i) g.names) (rw length-drop (omega arith)) in
    (omega arith, omega arith)

module _ (g : Parts) {o x : List ℕ} (front : List ℕ) (i : ℕ) {end : ℕ} (w : Written o (front ++ parts_from g 0 i) end x)
    (e : end ≡ end_before g i) where
  pub part_more : {y : List ℕ} {from : ℕ} → Right g → i < part_count g → from ≡ total (take i g.sizes)
      → y ≡ replicate (round_up end - end) 0 ++ (take (4 * i + 4 - 4 * i) (drop (4 * i) g.names) ++ (le32 (size_given g i) ++ take (from + size_given g i - from) (drop from g.bytes)))
      → Written o (front ++ parts_from g 0 (i + 1)) (round_up end + 8 + size_given g i) (take end x ++ (y ++ drop (round_up end + 8 + size_given g i - end) (drop end x)))
  unfolding part_bytes name_bytes data_given
  part_more {y} {from} r h f q =
      let a : 4 * i + 4 - 4 * i ≡ 4 = omega arith in
      let b : from + size_given g i - from ≡ size_given g i = omega arith in
      let p : y ≡ part_bytes g i = rw (a, b, e, f) at q in
      let l = part_length g r i h in
      let m = end_of g i in
      let k = (round_up_lem end).0 in
      rw (parts_more g i, ← append_assoc) (written_more w (round_up end + 8 + size_given g i) (omega arith) (part_bytes g i) p (omega arith))

  pub all_parts : i ≡ part_count g → length o ≡ file_length g → x ≡ front ++ parts_from g 0 (part_count g)
  all_parts q h = let n : length o ≡ end = h ∙ rw (← q) (sym e) in all_written w n ∙ rw q

pub no_parts : (g : Parts) (o : List ℕ) (n : ℕ) → n ≤ length o → Written o (take n o ++ parts_from g 0 0) n o
unfolding parts_from
no_parts g o n h =
    record {
      long = rw append-nil (length-take-le n o h);
      holds = rw append-nil (sym (take-append-drop n o));
    }

-- ---- header, offsets and parts are the container
offsets_agree : (g h : Parts) → g.sizes ≡ h.sizes → (k m : ℕ) → offsets_from g k m ≡ offsets_from h k m
unfolding offset_bytes
offsets_agree g h e k zero = refl
offsets_agree g h e k (suc m) = rw (ends_agree g h e k, offsets_agree g h e (suc k) m)

all_regroup : (a b c d e f o p : List ℕ) → ((a ++ (b ++ (c ++ (d ++ (e ++ f))))) ++ o) ++ p ≡ a ++ (b ++ (c ++ (d ++ (e ++ (f ++ (o ++ p))))))
all_regroup a b c d e f o p = simp append_assoc

pub assembled_is : (g : Parts) {len : ℕ} → len ≡ file_length g
    → front_bytes g.digest len g.sizes ++ parts_from g 0 (part_count g) ≡ assembled g
unfolding assembled front_bytes header_bytes
assembled_is g h =
    rw (h, offsets_agree (sized g.sizes) g refl 0 (part_count g))
    (all_regroup magic g.digest (le16 1) (le16 0) (le32 (file_length g)) (le32 (part_count g)) (offsets_from g 0 (part_count g)) (parts_from g 0 (part_count g)))
