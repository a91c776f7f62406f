-- What an accepted table tells of the bytes, and that those facts are all it takes.
-- Assumes nothing.
use Prim.Native.Nat.{ℕ, zero, suc, ◌+◌, ◌*◌, ◌≤◌, ◌<◌}
use mathlib.Core.Path.{◌≡◌, refl, sym, ◌∙◌}
use mathlib.Core.Bool.{Bool, true, false, ◌&&◌, ◌||◌, not, true≢false}
use mathlib.Core.List.{List}
use mathlib.Core.Logic.{⊎_elim}
use native.Mathlib.Nat.{le_of_suc-le-suc, eq-or-lt_of_le}
use native.Mathlib.Omega.{arith}
use lib.Dec.{ltb, leb, eqb}
use lib.ListN.{length, length-drop}
use lib.Seq.{length-take-le}
use borrow.Author.Tests.{ltb-false, leb-true, eqb-true, eqb-false, not-true, le-ltb, le-leb, eq-eqb, ne_eqb}
use Rattle.wire.specs.Number.{u16_at, u32_at}
use Rattle.wire.specs.Search.{first}
use Rattle.wire.specs.Verdict.{◌then◌, check, each, Accepted, Refused}
use Rattle.wire.proofs.Choices.{both}
use Rattle.wire.proofs.Searches.{first_below, first_none}
use Rattle.wire.proofs.Verdicts.{then_accepted, accepted_then, check_accepted, check_then, checked, each_accepted, each_all}
use Rattle.part_table_layout.specs.Table.{magic, count_of, offset_at, name_at, size_at, data_at, end_at, earliest, part_judged, has_name, priv, may_repeat, may_stand, name_judged, header_judged, parts_judged, table_judged, refused_table, accepted_table, table_with}

-- 1 to 7
pub record Header (b : List ℕ) : Type 0 where
  pub long : 32 ≤ length b
  pub short : length b ≤ 16777216
  pub magical : u32_at b 0 ≡ u32_at magic 0
  pub major : u16_at b 20 ≡ 1
  pub minor : u16_at b 22 ≡ 0
  pub sized : u32_at b 24 ≡ length b
  pub few : count_of b ≤ 96
  pub room : 32 + 4 * count_of b ≤ length b

-- 8 of part k
pub record Fits (b : List ℕ) (k : ℕ) : Type 0 where
  pub start : earliest b k ≤ offset_at b k
  pub inside : end_at b k ≤ length b

-- 9 of part k: its name may repeat, or is none of those before it
pub record Fresh (names : ℕ → ℕ) (k : ℕ) : Type 0 where
  pub new : may_repeat (names k) ≡ false → (j : ℕ) → j < k → names j ≡ names k → ⊥

-- 1 to 9
pub record Sound (b : List ℕ) : Type 0 where
  pub header : Header b
  pub fits : (k : ℕ) → k < count_of b → Fits b k
  pub fresh : (k : ℕ) → k < count_of b → Fresh (name_at b) k

pub header_told : (b : List ℕ) → header_judged b ≡ Accepted → Header b
unfolding header_judged
header_told b h =
    let h1 = check_then (leb 32 (length b)) _ _ _ h in
    let h2 = check_then (leb (length b) 16777216) _ _ _ h1.1 in
    let h3 = check_then (eqb (u32_at b 0) (u32_at magic 0)) _ _ _ h2.1 in
    let h4 = check_then (eqb (u16_at b 20) 1 && eqb (u16_at b 22) 0) _ _ _ h3.1 in
    let v = both (eqb (u16_at b 20) 1) (eqb (u16_at b 22) 0) h4.0 in
    let h5 = check_then (eqb (u32_at b 24) (length b)) _ _ _ h4.1 in
    let h6 = check_then (leb (count_of b) 96) _ _ _ h5.1 in
    let h7 = check_accepted (leb (32 + 4 * count_of b) (length b)) _ _ h6.1 in
    record {
      long = leb-true _ _ h1.0;
      short = leb-true _ _ h2.0;
      magical = eqb-true _ _ h3.0;
      major = eqb-true _ _ v.0;
      minor = eqb-true _ _ v.1;
      sized = eqb-true _ _ h5.0;
      few = leb-true _ _ h6.0;
      room = leb-true _ _ h7;
    }

pub header_is : (b : List ℕ) → Header b → header_judged b ≡ Accepted
unfolding header_judged check ◌then◌
header_is b h =
    simp (
      le-leb _ _ h.long,
      le-leb _ _ h.short,
      eq-eqb _ _ h.magical,
      eq-eqb _ _ h.major,
      eq-eqb _ _ h.minor,
      eq-eqb _ _ h.sized,
      le-leb _ _ h.few,
      le-leb _ _ h.room,
    )

pub part_told : (b : List ℕ) (k : ℕ) → part_judged b k ≡ Accepted → Fits b k
unfolding part_judged
part_told b k h =
    let t = both (leb (earliest b k) (offset_at b k) && leb (offset_at b k + 8) (length b)) (leb (end_at b k) (length b)) (check_accepted _ _ _ h) in
    let u = both (leb (earliest b k) (offset_at b k)) (leb (offset_at b k + 8) (length b)) t.0 in
    record { start = leb-true _ _ u.0; inside = leb-true _ _ t.1 }

pub part_is : (b : List ℕ) (k : ℕ) → Fits b k → part_judged b k ≡ Accepted
unfolding part_judged end_at
part_is b k f =
    let h : offset_at b k + 8 ≤ length b = let i = f.inside in omega arith in
    checked _ _ _ (simp (le-leb _ _ f.start, le-leb _ _ h, le-leb _ _ f.inside))

pub name_told : (names : ℕ → ℕ) (k : ℕ) → name_judged names k ≡ Accepted → Fresh names k
unfolding name_judged may_stand
name_told names k h = go (may_repeat (names k)) refl (check_accepted _ _ _ h)
  where
    p : ℕ → Bool
    p = has_name names (names k)

    go : (t : Bool) → may_repeat (names k) ≡ t → (t || not (ltb (first p k) k)) ≡ true → Fresh names k
    go true e g = record { new = λ r. absurd (true≢false (sym e ∙ r)) }
    go false e g =
        let l : k ≤ first p k = ltb-false (first p k) k (not-true _ g) in
        record { new = λ r j m. eqb-false (names j) (names k) (first_below p k j (omega arith)) }

pub name_is_new : (names : ℕ → ℕ) (k : ℕ) → Fresh names k → name_judged names k ≡ Accepted
unfolding name_judged may_stand
name_is_new names k f = checked _ _ _ (go (may_repeat (names k)) refl)
  where
    go : (t : Bool) → may_repeat (names k) ≡ t → (t || not (ltb (first (has_name names (names k)) k) k)) ≡ true
    go true e = refl
    go false e =
        let q = first_none (has_name names (names k)) k (λ j h. ne_eqb _ _ (f.new e j h)) in
        let l : k ≤ first (has_name names (names k)) k = omega arith in
        simp (le-ltb _ _ l)

pub accepted_told : (b : List ℕ) → table_judged b ≡ Accepted → Sound b
unfolding table_judged parts_judged
accepted_told b h =
    let t = then_accepted (header_judged b) _ h in
    let u = then_accepted (each (part_judged b) (count_of b)) _ t.1 in
    record {
      header = header_told b t.0;
      fits = λ k l. part_told b k (each_accepted _ _ k u.0 l);
      fresh = λ k l. name_told (name_at b) k (each_accepted _ _ k u.1 l);
    }

pub accepted_is : (b : List ℕ) → Sound b → table_judged b ≡ Accepted
unfolding table_judged parts_judged
accepted_is b s =
    accepted_then _ _ (header_is b s.header)
    (accepted_then _ _ (each_all _ _ (λ k l. part_is b k (s.fits k l)))
    (each_all _ _ (λ k l. name_is_new (name_at b) k (s.fresh k l))))

-- ---- what is shown
pub table_accepted : (c : Bool) (m : ℕ) (b : List ℕ) → table_judged b ≡ Accepted → table_with c m b ≡ accepted_table c m b
unfolding table_with
table_accepted c m b h = rw h

pub table_refused : (c : Bool) (m : ℕ) (b : List ℕ) {n p : ℕ} → table_judged b ≡ Refused n p → table_with c m b ≡ refused_table c m (Refused n p)
unfolding table_with
table_refused c m b h = rw h

-- ---- where the parts lie
module _ (b : List ℕ) (h : table_judged b ≡ Accepted) where
  fits : (k : ℕ) → k < count_of b → Fits b k
  fits = (accepted_told b h).fits

  pub part_inside : (k : ℕ) → k < count_of b → offset_at b k + 8 + size_at b k ≤ length b
  unfolding end_at
  part_inside k l = (fits k l).inside

  -- every part starts where the one before it ends, or later
  after : (k : ℕ) → suc k < count_of b → end_at b k ≤ offset_at b (suc k)
  unfolding earliest
  after k l = (fits (suc k) l).start

  pub parts_apart : (i j : ℕ) → i < j → j < count_of b → end_at b i ≤ offset_at b j
  unfolding end_at
  parts_apart i zero g l = absurd (omega arith)
  parts_apart i (suc j) g l =
      ⊎_elim (λ e. rw e (after j l))
      (λ m. let r = parts_apart i j m (omega arith) in let s = after j l in omega arith)
      (eq-or-lt_of_le (le_of_suc-le-suc g))

  pub part_after_table : (k : ℕ) → k < count_of b → 32 + 4 * count_of b ≤ offset_at b k
  unfolding earliest end_at
  part_after_table zero l = (fits 0 l).start
  part_after_table (suc k) l = let r = part_after_table k (omega arith) in let s = after k l in omega arith

  pub data_length : (k : ℕ) → k < count_of b → length (data_at b k) ≡ size_at b k
  unfolding data_at
  data_length k l =
      let r = part_inside k l in
      length-take-le (size_at b k) _ (rw length-drop (omega arith))

  -- "every other name still may not": names other than PRIV differ
  pub names_differ : (i j : ℕ) → i < j → j < count_of b → name_at b i ≡ name_at b j → name_at b j ≡ priv
  unfolding may_repeat
  names_differ i j g l e = go (may_repeat (name_at b j)) refl
    where
      go : (t : Bool) → may_repeat (name_at b j) ≡ t → name_at b j ≡ priv
      go true q = eqb-true _ _ q
      go false q = absurd (((accepted_told b h).fresh j l).new q i g e)
