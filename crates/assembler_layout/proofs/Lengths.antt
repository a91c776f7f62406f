-- What the checks of an assembly tell of what was given, and how long each stretch of the container is.
-- Assumes nothing.
use Prim.Native.Nat.{ℕ, zero, suc, ◌+◌, ◌-◌, ◌*◌, ◌%◌, ◌≤◌, ◌<◌}
use mathlib.Core.Path.{◌≡◌, refl}
use mathlib.Core.Bool.{true, ◌&&◌}
use mathlib.Core.List.{List, [], ◌∷◌}
use mathlib.Core.Logic.{⊎_elim}
use native.Mathlib.Nat.{le_of_suc-le-suc, eq-or-lt_of_le}
use native.Mathlib.Omega.{arith}
use lib.Dec.{leb, eqb}
use lib.ListN.{length, get_or, take, drop, length-append, length-drop, length-replicate}
use lib.Seq.{length-take-le}
use borrow.Author.Tests.{leb-true, eqb-true}
use Rattle.wire.specs.Verdict.{each, Accepted}
use Rattle.wire.proofs.Choices.{both}
use Rattle.wire.proofs.Numbers.{le32_length}
use Rattle.wire.proofs.Verdicts.{then_accepted, check_accepted, check_then, each_accepted}
use Rattle.part_table_layout.specs.Table.{name_judged}
use Rattle.part_table_layout.proofs.Accepted.{Fresh, name_told}
use Rattle.assembler_layout.specs.Assembled.{Parts, total, part_count, size_given, name_given, name_bytes, data_given, round_up, end_before, start_of, file_length, part_bytes, parts_from, parts_right, assembly_judged}

-- 27
pub record Right (g : Parts) : Type 0 where
  pub named : length g.names ≡ 4 * part_count g
  pub digested : length g.digest ≡ 16
  pub summed : total g.sizes ≡ length g.bytes

-- 27, 6, 9, 2
pub record Sound (g : Parts) : Type 0 where
  pub right : Right g
  pub few : part_count g ≤ 96
  pub fresh : (k : ℕ) → k < part_count g → Fresh (name_given g) k
  pub short : file_length g ≤ 16777216

pub right_told : (g : Parts) → parts_right g ≡ true → Right g
unfolding parts_right
right_told g h =
    let t = both (eqb (length g.names) (4 * part_count g) && eqb (length g.digest) 16) (eqb (total g.sizes) (length g.bytes)) h in
    let u = both (eqb (length g.names) (4 * part_count g)) (eqb (length g.digest) 16) t.0 in
    record { named = eqb-true _ _ u.0; digested = eqb-true _ _ u.1; summed = eqb-true _ _ t.1 }

pub accepted_told : (g : Parts) (room : ℕ) → assembly_judged g room ≡ Accepted → Sound g × (file_length g ≤ room)
unfolding assembly_judged
accepted_told g room h =
    let h1 = check_then (parts_right g) _ _ _ h in
    let h2 = check_then (leb (part_count g) 96) _ _ _ h1.1 in
    let h3 = then_accepted (each (name_judged (name_given g)) (part_count g)) _ h2.1 in
    let h4 = check_then (leb (file_length g) 16777216) _ _ _ h3.1 in (
      record {
        right = right_told g h1.0;
        few = leb-true _ _ h2.0;
        fresh = λ k l. name_told (name_given g) k (each_accepted _ _ k h3.0 l);
        short = leb-true _ _ h4.0;
      },
      leb-true _ _ (check_accepted _ _ _ h4.1),
    )

-- ---- sums of sizes
pub total_more : (l : List ℕ) (k : ℕ) → k < length l → total (take (suc k) l) ≡ total (take k l) + get_or l k 0
unfolding total
total_more [] k h = absurd (omega arith)
total_more (x ∷ l) zero h = omega arith
total_more (x ∷ l) (suc k) h = let r = total_more l k (le_of_suc-le-suc h) in omega arith

pub total_front : (l : List ℕ) (k : ℕ) → total (take k l) ≤ total l
unfolding total
total_front [] zero = omega arith
total_front [] (suc k) = omega arith
total_front (x ∷ l) zero = omega arith
total_front (x ∷ l) (suc k) = let r = total_front l k in omega arith

-- ---- multiples of 4
pub round_up_lem : (n : ℕ) → (n ≤ round_up n) × (round_up n < n + 4)
round_up_lem n = (omega arith, omega arith)

pub rounded : (n : ℕ) → round_up n % 4 ≡ 0
rounded n = omega arith

pub earliest_multiple : (n s : ℕ) → n ≤ s → s % 4 ≡ 0 → round_up n ≤ s
earliest_multiple n s h e = omega arith

module _ (g : Parts) where
  pub start_after : (k : ℕ) → end_before g k ≤ start_of g k
  start_after k = (round_up_lem (end_before g k)).0

  pub end_of : (k : ℕ) → end_before g (suc k) ≡ start_of g k + 8 + size_given g k
  unfolding end_before
  end_of k = refl

  pub ends_grow : (k m : ℕ) → k ≤ m → end_before g k ≤ end_before g m
  ends_grow k zero h = let e : k ≡ 0 = omega arith in rw e (omega arith)
  ends_grow k (suc m) h =
      ⊎_elim (λ e. rw e (omega arith))
      (λ l. let r = ends_grow k m (le_of_suc-le-suc l) in let s = start_after m in let e = end_of m in omega arith)
      (eq-or-lt_of_le h)

  pub end_of_table : end_before g 0 ≡ 32 + 4 * part_count g
  unfolding end_before
  end_of_table = refl

  -- ---- where the sections given have the lengths that they should
  module _ (r : Right g) where
    pub name_length : (k : ℕ) → k < part_count g → length (name_bytes g k) ≡ 4
    unfolding name_bytes
    name_length k h = let n = r.named in length-take-le 4 (drop (4 * k) g.names) (rw length-drop (omega arith))

    pub data_length : (k : ℕ) → k < part_count g → length (data_given g k) ≡ size_given g k
    unfolding data_given
    data_length k h =
        let s = r.summed in
        let m = total_more g.sizes k h in
        let f = total_front g.sizes (suc k) in
        length-take-le (size_given g k) (drop (total (take k g.sizes)) g.bytes) (rw length-drop (omega arith))

    pub part_length : (k : ℕ) → k < part_count g → length (part_bytes g k) ≡ end_before g (suc k) - end_before g k
    unfolding part_bytes
    part_length k h =
        let s = start_after k in
        let e = end_of k in
        simp (length-append, length-replicate, name_length k h, le32_length, data_length k h) (omega arith)

    pub parts_length : (k m : ℕ) → k + m ≤ part_count g → length (parts_from g k m) ≡ end_before g (k + m) - end_before g k
    unfolding parts_from
    parts_length k zero h = let e : k + 0 ≡ k = omega arith in rw e (omega arith)
    parts_length k (suc m) h =
        let e : k + suc m ≡ suc k + m = omega arith in
        let a = ends_grow k (suc k) (omega arith) in
        let b = ends_grow (suc k) (suc k + m) (omega arith) in
        rw e (simp (length-append, part_length k (omega arith), parts_length (suc k) m (omega arith)) (omega arith))
