-- The table of a container whose part i got other data: accepted, with the same parts in order.
-- Assumes nothing.
use Prim.Native.Nat.{ℕ, zero, suc, ◌≤◌, ◌<◌}
use mathlib.Core.Path.{◌≡◌, refl, sym, ◌∙◌}
use mathlib.Core.Bool.{Bool, true, false}
use mathlib.Core.List.{List}
use native.Mathlib.Omega.{arith}
use lib.Dec.{ltb}
use lib.ListN.{length}
use borrow.Author.Tests.{ltb-true, ltb-false}
use Rattle.wire.specs.Verdict.{Accepted}
use Rattle.part_table_layout.specs.Table.{count_of, offset_at, name_at, data_at, end_at, earliest, table_judged}
use Rattle.part_table_layout.proofs.Accepted.{Header, Sound, accepted_told, accepted_is, part_inside, parts_apart}
use Rattle.replacing_layout.specs.Replaced.{moved, replaced_at}
use Rattle.replacing_layout.proofs.Places.{around, front_alike, replaced_length, count_same, file_size_lem, offset_before, offset_after, before_name, before_size, before_data, own_name, own_size, after_name, after_size, after_data}
use Rattle.replacing_layout.proofs.Stretches.{alike_u32, alike_u16}

-- before, at or after a place
by_place : {A : Type 0} (k i : ℕ) → (k < i → A) → (k ≡ i → A) → (i < k → A) → A
by_place {A} k i f g h = go (ltb k i) (ltb i k) refl refl
  where
    go : (s t : Bool) → ltb k i ≡ s → ltb i k ≡ t → A
    go true t p q = f (ltb-true k i p)
    go false true p q = h (ltb-true i k q)
    go false false p q = g (let l = ltb-false k i p in let m = ltb-false i k q in omega arith)

module _ (b : List ℕ) (i : ℕ) (new : List ℕ) (t : table_judged b ≡ Accepted) (h : i < count_of b)
    (short : moved b i (length new) (length b) ≤ 16777216) where
  abbrev r : List ℕ
  r = replaced_at b i new

  module _ (k : ℕ) (l : k < count_of b) where
    pub name_same : name_at (replaced_at b i new) k ≡ name_at b k
    name_same =
        by_place k i (λ g. before_name b i new t h k g) (λ e. rw e (own_name b i new t h short)) (λ g. after_name b i new t h short k g l)

    pub data_same : (k ≡ i → ⊥) → data_at (replaced_at b i new) k ≡ data_at b k
    data_same other =
        by_place k i (λ g. before_data b i new t h k g) (λ e. absurd (other e)) (λ g. after_data b i new t h short k g l)

    end_before : k < i → end_at r k ≡ end_at b k
    unfolding end_at
    end_before g = rw (offset_before b i new t h k (omega arith), before_size b i new t h k g)

    end_after : i ≤ k → end_at r k ≡ moved b i (length new) (end_at b k)
    unfolding end_at
    end_after g =
        by_place k i (λ m. absurd (omega arith))
        (λ e. rw (e, offset_before b i new t h i (omega arith), own_size b i new t h short) (omega arith))
        (λ m.
        let q = parts_apart b t i k m l in
        rw (offset_after b i new t h short k m l, after_size b i new t h short k m l) (unfold end_at in omega arith))

    part_fits : end_at r k ≤ length r
    unfolding end_at
    part_fits =
        let n = replaced_length b i new t h in
        let p = part_inside b t k l in
        let p2 = part_inside b t i h in
        by_place k i
        (λ g. let e = end_before g in let q = parts_apart b t k i g h in omega arith)
        (λ g. let e = end_after (omega arith) in omega arith)
        (λ g. let e = end_after (omega arith) in omega arith)

  starts : (k : ℕ) → k < count_of b → earliest r k ≤ offset_at r k
  unfolding earliest end_at
  starts zero l =
      let s = ((accepted_told b t).fits 0 l).start in
      rw (count_same b i new t h, offset_before b i new t h 0 (omega arith)) s
  starts (suc k) l =
      let s : end_at b k ≤ offset_at b (suc k) = ((accepted_told b t).fits (suc k) l).start in
      by_place (suc k) (suc i)
      (λ g. let e = end_before k (omega arith) (omega arith) in let o = offset_before b i new t h (suc k) (omega arith) in omega arith)
      (λ g.
      let e = end_after k (omega arith) (omega arith) in
      let o = offset_after b i new t h short (suc k) (omega arith) l in
      omega arith)
      (λ g.
      let e = end_after k (omega arith) (omega arith) in
      let o = offset_after b i new t h short (suc k) (omega arith) l in
      omega arith)

  header : Header r
  header =
      let s = (accepted_told b t).header in
      let a = around b i new t h in
      let n = replaced_length b i new t h in
      let c = count_same b i new t h in
      let p = a.part in
      let q = a.table in
      let f = front_alike b i new t h in
      record {
        long = omega arith;
        short = omega arith;
        magical = alike_u32 r b 0 24 f 0 (omega arith) (omega arith) ∙ s.magical;
        major = alike_u16 r b 0 24 f 20 (omega arith) (omega arith) ∙ s.major;
        minor = alike_u16 r b 0 24 f 22 (omega arith) (omega arith) ∙ s.minor;
        sized = file_size_lem b i new t h short ∙ sym n;
        few = rw c s.few;
        room = rw c (omega arith);
      }

  pub table_sound : Sound (replaced_at b i new)
  table_sound =
      let c = count_same b i new t h in
      record {
        header = header;
        fits = λ k l. let m = rw c at l in record { start = starts k m; inside = part_fits k m };
        fresh = λ k l.
            let m = rw c at l in
            let q = name_same k m in
            record { new = λ v j g e. ((accepted_told b t).fresh k m).new (rw q at v) j g (sym (name_same j (omega arith)) ∙ e ∙ q) };
      }

  -- 1 to 9 accept it
  pub table_accepts : table_judged (replaced_at b i new) ≡ Accepted
  table_accepts = accepted_is (replaced_at b i new) table_sound
