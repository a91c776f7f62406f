-- The checks of an assembly at numbers that the code holds.
-- Assumes nothing.
use Prim.Native.Nat.{ℕ, zero, suc, ◌+◌, ◌≤◌, ◌<◌}
use mathlib.Core.Path.{◌≡◌, sym, ◌∙◌}
use mathlib.Core.Bool.{Bool, true, false}
use mathlib.Core.List.{List}
use native.Mathlib.Numerals.{add-one}
use native.Mathlib.Omega.{arith}
use lib.Dec.{eqb}
use lib.ListN.{length, get_or, take, set}
use lib.Seq.{take-length}
use borrow.Author.Tests.{eq-eqb, ne_eqb, le-leb, lt-leb}
use Rattle.wire.specs.Verdict.{◌then◌, check, each, Verdict, Accepted, Refused}
use Rattle.wire.proofs.Verdicts.{checked, check_fails, each_stop, each_next}
use Rattle.part_table_layout.specs.Table.{may_stand, name_judged, filled}
use Rattle.part_table_layout.proofs.Filled.{filled_more, filled_below}
use Rattle.part_table_layout.proofs.Judged.{stand_agree}
use Rattle.assembler_layout.specs.Assembled.{Parts, total, part_count, name_given, end_before, file_length, parts_right, assembly_judged}
use Rattle.assembler_layout.proofs.Lengths.{total_more, total_front}

-- ---- a sum that is taken apart: left is what is left of sum after the first i sizes
module _ (l : List ℕ) (i left sum : ℕ) (h : left + total (take i l) ≡ sum) where
  pub sum_less : i < length l → left < get_or l i 0 → false ≡ eqb (total l) sum
  sum_less g k =
      let m = total_more l i g in
      let f = total_front l (suc i) in
      sym (ne_eqb (total l) sum (λ e. omega arith))

  pub sum_more : (less : ℕ) → i < length l → less + get_or l i 0 ≡ left → less + total (take (i + 1) l) ≡ sum
  sum_more less g k = let m = total_more l i g in rw add-one (omega arith)

  pub sum_all : i ≡ length l → eqb left 0 ≡ eqb (total l) sum
  sum_all q =
      let e : left + total l ≡ sum = rw (q, take-length) at h in
      go left e
    where
      go : (n : ℕ) → n + total l ≡ sum → eqb n 0 ≡ eqb (total l) sum
      go zero e = sym (eq-eqb (total l) sum (omega arith))
      go (suc n) e = ne_eqb (suc n) 0 (λ q. omega arith) ∙ sym (ne_eqb (total l) sum (λ q. omega arith))

-- ---- name i, x, was judged by those before it, with the answer t
module _ (f : ℕ → ℕ) {i n x : ℕ} {l : List ℕ} {t : Bool}
    (few : n ≤ 96) (less : i < n) (e : x ≡ f i) (seen : l ≡ filled f i) (h : t ≡ may_stand (λ k. get_or l k 0) x i) (a : each (name_judged f) i ≡ Accepted) where
  stands : t ≡ may_stand f (f i) i
  stands = h ∙ rw (seen, e) (stand_agree (λ k. get_or (filled f i) k 0) f (f i) i (λ j m. filled_below f i j (omega arith) m))

  pub name_stood : t ≡ false → Refused 9 i ≡ each (name_judged f) n
  unfolding name_judged
  name_stood q = sym (each_stop _ i n 9 i less a (check_fails _ _ _ (sym stands ∙ q)))

  pub name_fresh : t ≡ true → each (name_judged f) (i + 1) ≡ Accepted
  unfolding name_judged
  name_fresh q = rw add-one (each_next _ i a (checked _ _ _ (sym stands ∙ q)))

  pub name_seen : set l i x ≡ filled f (i + 1)
  name_seen = rw seen (filled_more f i e)

-- ---- the verdict: 27, 6, 9, 2, 28
module _ (g : Parts) (room : ℕ) where
  pub not_right : parts_right g ≡ false → Refused 27 0 ≡ assembly_judged g room
  unfolding assembly_judged check ◌then◌
  not_right h = rw h

  module _ (right : parts_right g ≡ true) where
    pub too_many : 96 < part_count g → Refused 6 0 ≡ assembly_judged g room
    unfolding assembly_judged check ◌then◌
    too_many h = rw (right, lt-leb _ _ h)

    module _ (few : part_count g ≤ 96) {v : Verdict} (hv : v ≡ each (name_judged (name_given g)) (part_count g)) where
      pub name_twice : {n p : ℕ} → v ≡ Refused n p → Refused n p ≡ assembly_judged g room
      unfolding assembly_judged check ◌then◌
      name_twice h = rw (right, le-leb _ _ few, ← hv, h)

      module _ (h : v ≡ Accepted) {len : ℕ} (hl : len ≡ file_length g) where
        pub too_long : 16777216 < len → Refused 2 0 ≡ assembly_judged g room
        unfolding assembly_judged check ◌then◌
        too_long l = rw (right, le-leb _ _ few, ← hv, h, ← hl, lt-leb _ _ l)

        pub no_room : len ≤ 16777216 → room < len → Refused 28 0 ≡ assembly_judged g room
        unfolding assembly_judged check ◌then◌
        no_room l r = rw (right, le-leb _ _ few, ← hv, h, ← hl, le-leb _ _ l, lt-leb _ _ r)

        pub all_right : len ≤ 16777216 → len ≤ room → Accepted ≡ assembly_judged g room
        unfolding assembly_judged check ◌then◌
        all_right l r = rw (right, le-leb _ _ few, ← hv, h, ← hl, le-leb _ _ l, le-leb _ _ r)

-- where parts start goes by the sizes alone
pub ends_agree : (g h : Parts) → g.sizes ≡ h.sizes → (k : ℕ) → end_before g k ≡ end_before h k
unfolding end_before
ends_agree g h e zero = rw e
ends_agree g h e (suc k) = rw (ends_agree g h e k, e)
