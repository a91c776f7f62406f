-- What an accepted number, row and file tell of the bytes.
-- Assumes nothing.
use Prim.Native.Nat.{ℕ, suc, ◌+◌, ◌-◌, ◌<◌, ◌≤◌}
use mathlib.Core.Path.{◌≡◌, refl, sym, ◌∙◌, ap}
use mathlib.Core.Bool.{Bool, true, false}
use mathlib.Core.List.{List, [], ◌∷◌, ◌++◌}
use native.Mathlib.Omega.{arith}
use lib.Dec.{ltb}
use lib.ListN.{length, drop, length-drop}
use lib.Seq.{drop_at, drop-drop}
use borrow.Author.Tests.{ltb-true, ltb-false, leb-true, eqb-true}
use Rattle.wire.specs.Number.{Bytes}
use Rattle.wire.specs.Verdict.{Accepted, Refused}
use Rattle.wire.proofs.Numbers.{bytes_drop}
use Rattle.wire.proofs.Verdicts.{then_accepted, check_then, check_accepted}
use Rattle.settings_layout.specs.declared.Number.{Number}
use Rattle.std.specs.Prelude.{Result, Ok, Err}
use Rattle.settings_layout.specs.Groups.{good, number, value_if, size_if, value_of, size_of, after, in_groups}
use Rattle.settings_layout.specs.Rules.{key_known, in_range, may_follow}
use Rattle.settings_layout.specs.File.{number_if, number_judged, row_size, row_end, row_judged, rows_judged, judged}
use Rattle.settings_layout.proofs.Groupings.{first_laid, first_large, first_told, first_inside}

-- a refusal is no acceptance
pub refused_not : {A : Type 0} (n p : ℕ) → Refused n p ≡ Accepted → A
refused_not n p e = absurd (let z : ◌≡◌ {A = ℕ} 0 1 = cc in omega arith)

-- ---- a number
pub good_number : (p : ℕ) (l : List ℕ) → number_judged p l ≡ Accepted → number l ≡ good (value_of l) (size_of l)
unfolding number_judged number_if value_of size_of
good_number p l e = go (number l) e
  where
    go : (r : Result Number ℕ) → number_if r p ≡ Accepted → r ≡ good (value_if r) (size_if r)
    go (Ok g) h = refl
    go (Err n) h = refused_not n p h

pub number_accepted : (p : ℕ) (l : List ℕ) (v s : ℕ) → number l ≡ good v s → number_judged p l ≡ Accepted
unfolding number_judged number_if
number_accepted p l v s e = rw e

pub number_refused : (p : ℕ) (l : List ℕ) (n : ℕ) → number l ≡ Err n → number_judged p l ≡ Refused n p
unfolding number_judged number_if
number_refused p l n e = rw e

-- the number n in groups at the front of l
pub record Front (n : ℕ) (l : List ℕ) : Type 0 where
  pub value : value_of (in_groups n ++ l) ≡ n
  pub size : size_of (in_groups n ++ l) ≡ length (in_groups n)
  pub rest : after (in_groups n ++ l) ≡ l

pub front : (n : ℕ) (l : List ℕ) → n < 4294967296 → Front n l
unfolding value_of size_of after
front n l h =
    let e = first_laid l n h in
    record { value = rw e; size = rw e; rest = rw e (drop_at (in_groups n) l _ refl) }

pub front_small : (p n : ℕ) (l : List ℕ) → number_judged p (in_groups n ++ l) ≡ Accepted → n < 4294967296
front_small p n l a = go (ltb n 4294967296) refl
  where
    go : (t : Bool) → ltb n 4294967296 ≡ t → n < 4294967296
    go true e = ltb-true n _ e
    go false e = refused_not 54 p (sym (number_refused p _ 54 (first_large l n (ltb-false n _ e))) ∙ a)

-- what was read, in groups again
pub again : (p : ℕ) (l : List ℕ) → Bytes l → number_judged p l ≡ Accepted → in_groups (value_of l) ++ after l ≡ l
unfolding after in_groups
again p l y a = (first_told l (value_of l) (size_of l) y (good_number p l a)).form

pub bytes_after : (l : List ℕ) → Bytes l → Bytes (after l)
unfolding after
bytes_after l y = bytes_drop l (size_of l) y

-- ---- a row
pub record RowTold (w p : ℕ) (l : List ℕ) : Type 0 where
  pub version : number_judged p l ≡ Accepted
  pub rising : may_follow w (value_of l) ≡ true
  pub key : number_judged (p + size_of l) (after l) ≡ Accepted
  pub known : key_known (value_of (after l)) ≡ true
  pub value : number_judged (p + size_of l + size_of (after l)) (after (after l)) ≡ Accepted
  pub within : in_range (value_of (after l)) (value_of (after (after l))) ≡ true

pub row_told : (w p : ℕ) (l : List ℕ) → row_judged w p l ≡ Accepted → RowTold w p l
unfolding row_judged
row_told w p l e =
    let a = then_accepted _ _ e in
    let b = check_then _ 59 p _ a.1 in
    let c = then_accepted _ _ b.1 in
    let d = check_then _ 57 _ _ c.1 in
    let f = then_accepted _ _ d.1 in
    record {
      version = a.0;
      rising = b.0;
      key = c.0;
      known = d.0;
      value = f.0;
      within = check_accepted _ 58 _ f.1;
    }

pub rows_told : (n w p : ℕ) (l : List ℕ) → rows_judged (suc n) w p l ≡ Accepted
    → RowTold w p l × (rows_judged n (value_of l) (p + row_size l) (row_end l) ≡ Accepted)
unfolding rows_judged
rows_told n w p l e = let a = then_accepted _ _ e in (row_told w p l a.0, a.1)

pub end_told : (w p : ℕ) (l : List ℕ) → rows_judged 0 w p l ≡ Accepted → l ≡ []
unfolding rows_judged
end_told w p [] e = refl
end_told w p (x ∷ l) e = absurd (let h = eqb-true (length (x ∷ l)) 0 (check_accepted _ 60 p e) in omega arith)

-- ---- a file
pub record FileTold (d : List ℕ) : Type 0 where
  pub count : number_judged 0 d ≡ Accepted
  pub few : value_of d ≤ 512
  pub rows : rows_judged (value_of d) 0 (size_of d) (after d) ≡ Accepted

pub file_told : (d : List ℕ) → judged d ≡ Accepted → FileTold d
unfolding judged
file_told d e =
    let a = then_accepted _ _ e in
    let b = check_then _ 56 0 _ a.1 in
    record { count = a.0; few = leb-true _ _ b.0; rows = b.1 }

-- ---- where a row ends
pub number_inside : (p : ℕ) (l : List ℕ) → number_judged p l ≡ Accepted → (0 < size_of l) × (size_of l ≤ length l)
number_inside p l a = first_inside l (value_of l) (size_of l) (good_number p l a)

pub row_end_lem : (l : List ℕ) → row_end l ≡ drop (row_size l) l
unfolding row_end row_size after
row_end_lem l =
    let a = size_of l in
    let b = size_of (after l) in
    let c = size_of (after (after l)) in
    let e : a + (b + c) ≡ a + b + c = omega arith in
    drop-drop c b (drop a l) ∙ drop-drop (b + c) a l ∙ ap (λ (n : ℕ). drop n l) e

pub after_length : (l : List ℕ) → length (after l) ≡ length l - size_of l
unfolding after
after_length l = length-drop (size_of l) l

pub row_inside : (w p : ℕ) (l : List ℕ) → RowTold w p l → row_size l ≤ length l
unfolding row_size
row_inside w p l t =
    let a = number_inside _ l t.version in
    let b = number_inside _ (after l) t.key in
    let c = number_inside _ (after (after l)) t.value in
    omega (arith, after_length l, after_length (after l))
