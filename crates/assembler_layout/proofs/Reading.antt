-- What the table reader makes of an assembled container.
-- Assumes nothing.
use Prim.Native.Nat.{ℕ, zero, suc, ◌≤◌, ◌<◌}
use mathlib.Core.Path.{◌≡◌, sym, ◌∙◌}
use mathlib.Core.List.{List}
use native.Mathlib.Omega.{arith}
use lib.ListN.{length}
use Rattle.part_table_layout.specs.Table.{count_of, offset_at, name_at, size_at, end_at, earliest}
use Rattle.part_table_layout.proofs.Accepted as table
use Rattle.assembler_layout.specs.Assembled.{Parts, part_count, size_given, name_given, end_before, start_of, file_length, assembled}
use Rattle.assembler_layout.proofs.Lengths.{Sound, start_after, end_of, ends_grow, end_of_table}
use Rattle.assembler_layout.proofs.Places.{assembled_length, magic_read, major_read, minor_read, file_size_read, count_read, offset_read, name_read, size_read}

module _ (g : Parts) (s : Sound g) where
  abbrev b : List ℕ
  b = assembled g

  pub long_is : length b ≡ file_length g
  long_is = assembled_length g s.right

  pub count_is : count_of b ≡ part_count g
  unfolding count_of
  count_is = let f = s.few in count_read g s.right (omega arith)

  module _ (k : ℕ) (h : k < part_count g) where
    inside : end_before g (suc k) ≤ 16777216
    inside = let e = ends_grow g (suc k) (part_count g) h in let f = s.short in omega arith

    pub offset_is : offset_at b k ≡ start_of g k
    unfolding offset_at
    offset_is = let e = end_of g k in let i = inside in offset_read g s.right k h (omega arith)

    pub name_is : name_at b k ≡ name_given g k
    unfolding name_at
    name_is = rw offset_is (name_read g s.right k h)

    pub size_is : size_at b k ≡ size_given g k
    unfolding size_at
    size_is = let e = end_of g k in let i = inside in rw offset_is (size_read g s.right k h (omega arith))

    end_is : end_at b k ≡ end_before g (suc k)
    unfolding end_at
    end_is = rw (offset_is, size_is) (sym (end_of g k))

  pub earliest_is : (k : ℕ) → k ≤ part_count g → earliest b k ≡ end_before g k
  unfolding earliest
  earliest_is zero h = rw count_is (sym (end_of_table g))
  earliest_is (suc k) h = end_is k h

  header_is : table.Header b
  header_is =
      let t = ends_grow g 0 (part_count g) (omega arith) in
      let z = end_of_table g in
      let n = s.short in
      let l = long_is in
      let c = count_is in
      record {
        long = omega arith;
        short = omega arith;
        magical = magic_read g s.right;
        major = major_read g s.right;
        minor = minor_read g s.right;
        sized = file_size_read g s.right (omega arith) ∙ sym l;
        few = rw c s.few;
        room = rw c (omega arith);
      }

  pub sound_is : table.Sound b
  sound_is =
      record {
        header = header_is;
        fits = λ k l.
            let h = rw count_is at l in
            let e = earliest_is k (omega arith) in
            let i = ends_grow g (suc k) (part_count g) h in
            let f = end_is k h in
            let o = offset_is k h in
            let m = long_is in
            record { start = rw (e, o) (start_after g k); inside = omega arith };
        fresh = λ k l.
            let h = rw count_is at l in
            record { new = λ r j m e. (s.fresh k h).new (rw (name_is k h) at r) j m (sym (name_is j (omega arith)) ∙ e ∙ name_is k h) };
      }
