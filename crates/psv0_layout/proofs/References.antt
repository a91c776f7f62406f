-- String and index references, by position in the tables; and the loop that judges the references of the elements.
-- Assumes nothing.
use Prim.Native.Nat.compare
use Prim.Native.Nat.{ℕ, zero, suc, ◌+◌, ◌-◌, ◌*◌, ◌≤◌, ◌<◌}
use mathlib.Core.Path.{◌≡◌, refl, sym, ap, ◌∙◌}
use mathlib.Core.Bool.{Bool, true, false, ◌&&◌, not}
use mathlib.Core.List.{List, [], ◌∷◌}
use mathlib.Core.Logic.{inl, inr, ⊎_elim}
use native.Mathlib.Omega.{arith}
use native.Mathlib.Numerals.{add-one}
use lib.Dec.{ltb, eqb}
use lib.ListN.{length, get_or, take, drop, length-take, length-drop}
use lib.Seq.{take_all, get_or-take, get_or-drop}
use borrow.Author.Tests.{lt-ltb, le-ltb, le-leb, lt-leb, leb-true, ltb-true, ltb-false, eq-eqb, ne_eqb, not-true, not-false}
use Rattle.utf8_layout.specs.Sequence.{after, counted, well_formed}
use Rattle.utf8_layout.proofs.Joined.{whole_more}
use Rattle.utf8_layout.proofs.Rows.{front_plain}
use Rattle.wire.specs.Number.{u32_at}
use Rattle.wire.specs.Search.{first}
use Rattle.wire.specs.Verdict.{◌then◌, check, each, Accepted, Refused}
use Rattle.wire.proofs.Choices.{both}
use Rattle.wire.proofs.Searches.{first_below, first_at}
use Rattle.wire.proofs.Verdicts.{each_stop, each_next}
use Rattle.psv0_layout.specs.Field.{name_offset_of, index_reference_of, row_count}
use Rattle.psv0_layout.specs.Judged.{element_judged, elements_judged}
use Rattle.psv0_layout.specs.Layout.{Body}
use Rattle.psv0_layout.specs.Position.{NoZero, UpToLastZero, PlainFrom, Decided}
use Rattle.psv0_layout.specs.Reference.{has_zero, until_zero, string_ends, string_good, string_at, index_total, index_good, array_at}
use Rattle.psv0_layout.proofs.Positions.{part_u32}

-- ---- tests
and_true : (s : Bool) → (s && true) ≡ s
and_true true = refl
and_true false = refl

pub and_false : (s : Bool) → (s && false) ≡ false
and_false true = refl
and_false false = refl

-- a slice of all bytes
pub whole_slice : (l : List ℕ) → take (length l - 0) (drop 0 l) ≡ l
whole_slice l = take_all (length l - 0) l (omega arith)

-- ---- zero bytes in a list
zero_in : (l : List ℕ) (i : ℕ) → i < length l → get_or l i 0 ≡ 0 → has_zero l ≡ true
unfolding has_zero
zero_in [] i h e = absurd (omega arith)
zero_in (zero ∷ l) i h e = refl
zero_in (suc x ∷ l) zero h e = absurd (omega arith)
zero_in (suc x ∷ l) (suc i) h e = zero_in l i (omega arith) e

zero_out : (l : List ℕ) → NoZero l 0 (length l) → has_zero l ≡ false
unfolding has_zero
zero_out [] h = refl
zero_out (zero ∷ l) h = absurd (h 0 (omega arith) (omega arith) refl)
zero_out (suc x ∷ l) h = zero_out l (λ i a b e. h (suc i) (omega arith) (omega arith) e)

-- the bytes before the first zero stand in front, and there is a zero exactly where something follows them
until_front : (l : List ℕ) → (length (until_zero l) ≤ length l) × (until_zero l ≡ take (length (until_zero l)) l)
unfolding until_zero
until_front [] = (omega arith, refl)
until_front (zero ∷ l) = (omega arith, refl)
until_front (suc x ∷ l) = let (h, e) = until_front l in (omega arith, ap (λ (r : List ℕ). suc x ∷ r) e)

zero_follows : (l : List ℕ) → has_zero l ≡ ltb (length (until_zero l)) (length l)
unfolding has_zero until_zero
zero_follows [] = refl
zero_follows (zero ∷ l) = sym (lt-ltb 0 (suc (length l)) (omega arith))
zero_follows (suc x ∷ l) = rw compare.suc-suc (zero_follows l)

-- ---- zero bytes of t from a position on
zero_from : (t : List ℕ) (o j : ℕ) → o ≤ j → j < length t → get_or t j 0 ≡ 0 → has_zero (drop o t) ≡ true
zero_from t o j h l e =
    let z : o + (j - o) ≡ j = omega arith in
    zero_in (drop o t) (j - o) (simp length-drop (omega arith)) (rw (get_or-drop, z) e)

no_zero_from : (t : List ℕ) (o : ℕ) → NoZero t o (length t) → has_zero (drop o t) ≡ false
no_zero_from t o f =
    zero_out (drop o t) (λ i a b e. f (o + i) (omega arith) (omega (arith, simp length-drop at b)) (rw get_or-drop at e))

-- what a search knows: nothing yet, one byte, one stretch and the next, one more byte in front
module _ (t : List ℕ) where
  pub no_zero_begin : (i : ℕ) → NoZero t i i
  no_zero_begin i j a b e = absurd (omega arith)

  pub no_zero_one : (i : ℕ) → (get_or t i 0 ≡ 0 → ⊥) → NoZero t i (i + 1)
  no_zero_one i g j a b e = let q : j ≡ i = omega arith in g (rw q at e)

  pub no_zero_join : (i m n : ℕ) → NoZero t i m → NoZero t m n → NoZero t i n
  no_zero_join i m n f g j a b e = let l : j < m → ⊥ = λ h. f j a h e in g j (omega arith) b e

  pub no_zero_back : (i n : ℕ) → NoZero t (i + 1) n → (get_or t i 0 ≡ 0 → ⊥) → NoZero t i n
  no_zero_back i n f g = no_zero_join i (i + 1) n (no_zero_one i g) f

  -- a stretch whose search from its end came to its front
  pub no_zero_part : (i m : ℕ) → m ≤ length t → UpToLastZero (take (m - i) (drop i t)) 0 → NoZero t i m
  no_zero_part i m h u j a b e =
      let q : i + (j - i) ≡ j = omega arith in
      let k : j - i < m - i = omega arith in
      u.none (j - i) (omega arith) (simp (length-take, length-drop) (omega arith)) (rw (get_or-take, get_or-drop, q) e)

  -- a search from the end that comes to the front, and one that stops
  pub last_zero_none : NoZero t 0 (length t) → UpToLastZero t 0
  last_zero_none f = record { inside = omega arith; ends = inl refl; none = f }

  pub last_zero_found : (i : ℕ) → i < length t → get_or t i 0 ≡ 0 → NoZero t (i + 1) (length t) → UpToLastZero t (i + 1)
  last_zero_found i h e f =
      let z : i + 1 - 1 ≡ i = omega arith in
      record { inside = omega arith; ends = inr (rw z e); none = f }

-- ---- string references
-- the last zero byte decides which strings end
pub string_ends_lem : (t : List ℕ) (m o : ℕ) → UpToLastZero t m → string_ends t o ≡ ltb o m
unfolding string_ends
string_ends_lem t m o u = go (ltb o m) refl
  where
    go : (b : Bool) → ltb o m ≡ b → (ltb o (length t) && has_zero (drop o t)) ≡ b
    go true p =
        let l : o < m = ltb-true o m p in
        let i : o < length t = omega (arith, u.inside) in
        let z : has_zero (drop o t) ≡ true =
        ⊎_elim (λ n. absurd (omega arith)) (zero_from t o (m - 1) (omega arith) (omega (arith, u.inside))) u.ends in
        rw (lt-ltb o (length t) i, z)
    go false p =
        let l : m ≤ o = ltb-false o m p in
        let z : has_zero (drop o t) ≡ false = no_zero_from t o (λ j a. u.none j (omega arith)) in
        rw z (and_false (ltb o (length t)))

-- a string, byte by byte: it ends at a zero byte, and past the end of the table
pub string_stops : (t : List ℕ) (i : ℕ) → get_or t i 0 ≡ 0 → string_at t i ≡ []
unfolding string_at until_zero
string_stops [] zero e = refl
string_stops [] (suc i) e = refl
string_stops (zero ∷ t) zero e = refl
string_stops (suc x ∷ t) zero e = absurd (omega arith)
string_stops (x ∷ t) (suc i) e = string_stops t i e

pub string_goes : (t : List ℕ) (i : ℕ) → (get_or t i 0 ≡ 0 → ⊥) → string_at t i ≡ get_or t i 0 ∷ string_at t (suc i)
unfolding string_at until_zero
string_goes [] zero f = absurd (f refl)
string_goes [] (suc i) f = absurd (f refl)
string_goes (zero ∷ t) zero f = absurd (f refl)
string_goes (suc x ∷ t) zero f = refl
string_goes (x ∷ t) (suc i) f = string_goes t i f

pub string_past : (t : List ℕ) (i : ℕ) → length t ≤ i → get_or t i 0 ≡ 0
string_past [] zero h = refl
string_past [] (suc i) h = refl
string_past (x ∷ t) zero h = absurd (omega arith)
string_past (x ∷ t) (suc i) h = string_past t i (omega arith)

-- a string of n bytes is the n bytes at its reference, which lie inside
pub string_is : (t : List ℕ) (o n : ℕ) → n ≡ length (string_at t o) → o ≤ length t
    → (o + n ≤ length t) × (string_at t o ≡ take n (drop o t))
unfolding string_at
string_is t o n e h =
    let (l, q) = until_front (drop o t) in
    (omega (arith, simp length-drop at l), rw e q)

-- its length tells whether it ends
pub ends_length : (t : List ℕ) (o : ℕ) → string_ends t o ≡ ltb (o + length (string_at t o)) (length t)
unfolding string_ends string_at
ends_length t o = rw (zero_follows (drop o t), length-drop) (go (ltb o (length t)) refl)
  where
    n : ℕ
    n = length (until_zero (drop o t))

    rest : o < length t → (s : Bool) → ltb n (length t - o) ≡ s → s ≡ ltb (o + n) (length t)
    rest h true q = let l = ltb-true n (length t - o) q in sym (lt-ltb (o + n) (length t) (omega arith))
    rest h false q = let l = ltb-false n (length t - o) q in sym (le-ltb (o + n) (length t) (omega arith))

    go : (s : Bool) → ltb o (length t) ≡ s → (s && ltb n (length t - o)) ≡ ltb (o + n) (length t)
    go true e = rest (ltb-true o (length t) e) (ltb n (length t - o)) refl
    go false e = let l = ltb-false o (length t) e in sym (le-ltb (o + n) (length t) (omega arith))

-- the string at a good reference ends and is well formed; the reference lies inside
pub good_parts : (t : List ℕ) (o : ℕ) → string_good t o ≡ true → (string_ends t o ≡ true) × (well_formed (string_at t o) ≡ true)
unfolding string_good
good_parts t o e = both (string_ends t o) (well_formed (string_at t o)) e

pub string_inside : (t : List ℕ) (o : ℕ) → string_good t o ≡ true → o < length t
unfolding string_ends
string_inside t o e = ltb-true o (length t) (both (ltb o (length t)) _ (good_parts t o e).0).0

-- where every byte is below 0x80, the end alone decides
pub plain_well : (l : List ℕ) → PlainFrom l 0 → well_formed l ≡ true
unfolding well_formed counted after
plain_well [] f = refl
plain_well (x ∷ l) f =
    rw (front_plain x l (f 0 (omega arith) (omega arith)))
    (whole_more (counted l 0) ∙ plain_well l (λ j a b. f (suc j) (omega arith) (omega arith)))

plain_until : (l : List ℕ) → PlainFrom l 0 → well_formed (until_zero l) ≡ true
plain_until l f =
    let (h, e) = until_front l in
    plain_well (until_zero l)
    (λ j a b. rw (ap (λ (z : List ℕ). get_or z j 0) e, get_or-take (length (until_zero l)) l j 0 b) (f j a (omega arith)))

plain_rest : (t : List ℕ) (i o : ℕ) → PlainFrom t i → i ≤ o → PlainFrom (drop o t) 0
plain_rest t i o f h j a b = rw get_or-drop (f (o + j) (omega arith) (omega (arith, simp length-drop at b)))

pub plain_good : (t : List ℕ) (i m o : ℕ) → PlainFrom t i → UpToLastZero t m → i ≤ o → string_good t o ≡ ltb o m
unfolding string_good string_at
plain_good t i m o f u h = rw (plain_until (drop o t) (plain_rest t i o f h), string_ends_lem t m o u) (and_true (ltb o m))

-- ---- how references are decided: by the end alone where every byte is below 0x80, and where the first that isn't good is known
module _ (t : List ℕ) (ref : ℕ → ℕ) (n m : ℕ) (u : UpToLastZero t m) where
  pub decided_plain : PlainFrom t 0 → Decided t ref n m n
  decided_plain f = record { told = λ i h l. plain_good t 0 m (ref i) f u (omega arith) ∙ rw (ne_eqb i n (λ e. omega arith)) (sym (and_true (ltb (ref i) m))) }

  pub decided_first : (ill : ℕ) → ill ≡ first (λ i. not (string_good t (ref i))) n → Decided t ref n m ill
  decided_first ill e = record { told = λ i h l. go i h (ltb i ill) refl l }
    where
      go : (i : ℕ) → i < n → (s : Bool) → ltb i ill ≡ s → i ≤ ill → string_good t (ref i) ≡ (ltb (ref i) m && not (eqb i ill))
      go i h true q l =
          let k = ltb-true i ill q in
          let g : string_good t (ref i) ≡ true = not-false (string_good t (ref i)) (first_below (λ i. not (string_good t (ref i))) n i (rw (← e) k)) in
          let b : ltb (ref i) m ≡ true = sym (string_ends_lem t m (ref i) u) ∙ (good_parts t (ref i) g).0 in
          rw (g, b, ne_eqb i ill (λ z. omega arith))
      go i h false q l =
          let k = ltb-false i ill q in
          let z : i ≡ ill = omega arith in
          let g : string_good t (ref i) ≡ false = not-true (string_good t (ref i)) (rw (sym e ∙ sym z) at (first_at (λ i. not (string_good t (ref i))) n (rw (← e, ← z) h))) in
          rw (g, eq-eqb i ill z) (sym (and_false (ltb (ref i) m)))

-- ---- index references
-- "rows 0 gives an empty array and i may equal N", and not pass it
pub no_rows : (x : List ℕ) (i : ℕ) → array_at x i 0 ≡ []
unfolding array_at
no_rows x i = refl

pub at_end : (x : List ℕ) → index_good x (index_total x) 0 ≡ true
unfolding index_good
at_end x = le-leb (index_total x + 0) (index_total x) (omega arith)

pub past_end : (x : List ℕ) → index_good x (index_total x + 1) 0 ≡ false
unfolding index_good
past_end x = lt-leb (index_total x + 1 + 0) (index_total x) (omega arith)

-- "the reference points at the first index": number j of the array is number i + j of the table
pub array_number : (x : List ℕ) (i r j : ℕ) → j < r → u32_at (array_at x i r) (j * 4) ≡ u32_at x ((i + j) * 4)
unfolding array_at
array_number x i r j h = let e : i * 4 + j * 4 ≡ (i + j) * 4 = omega arith in rw (part_u32 x (i * 4) (r * 4) (j * 4) (omega arith), e)

-- the array of a good reference lies inside
pub index_inside : (x : List ℕ) (i r : ℕ) → index_good x i r ≡ true → i + r ≤ index_total x
unfolding index_good
index_inside x i r e = leb-true (i + r) (index_total x) e

-- ---- the elements, one after the other: element i, whose references are a and, for r rows, c
module _ (b : Body) (i a c r : ℕ)
    (so_far : each (element_judged b.strings b.indices b.elements) i ≡ Accepted)
    (ea : name_offset_of (get_or b.elements i []) ≡ a) (ec : index_reference_of (get_or b.elements i []) ≡ c)
    (er : row_count (get_or b.elements i []) ≡ r) where
  stop : (n : ℕ) → i < length b.elements → element_judged b.strings b.indices b.elements i ≡ Refused n i
      → elements_judged b ≡ Refused n i
  unfolding elements_judged
  stop n h q = each_stop _ i _ n i h so_far q

  pub stop_22 : i < length b.elements → string_good b.strings a ≡ false → elements_judged b ≡ Refused 22 i
  stop_22 h q = stop 22 h (unfold element_judged check ◌then◌ in simp (ea, q))

  pub stop_23 : i < length b.elements → string_good b.strings a ≡ true → index_total b.indices < c + r
      → elements_judged b ≡ Refused 23 i
  stop_23 h q l = stop 23 h (unfold element_judged check ◌then◌ index_good in simp (ea, q, ec, er, lt-leb _ _ l))

  pub go_on : string_good b.strings a ≡ true → c + r ≤ index_total b.indices
      → each (element_judged b.strings b.indices b.elements) (i + 1) ≡ Accepted
  go_on q l =
      rw (add-one i) (each_next _ i so_far (unfold element_judged check ◌then◌ index_good in simp (ea, q, ec, er, le-leb _ _ l)))

pub judged_all : (b : Body) (i : ℕ) → length b.elements ≡ i
    → each (element_judged b.strings b.indices b.elements) i ≡ Accepted → elements_judged b ≡ Accepted
unfolding elements_judged
judged_all b i e f = rw e f
