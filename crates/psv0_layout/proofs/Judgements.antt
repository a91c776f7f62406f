-- The checks of fields and references: the facts that make each verdict.
-- Assumes nothing.
use Prim.Native.Nat.{ℕ, ◌+◌, ◌-◌, ◌*◌, ◌≤◌, ◌<◌}
use mathlib.Core.Path.{◌≡◌, refl, sym, ◌∙◌}
use mathlib.Core.Bool.{Bool, true, false, ◌&&◌, not, true≢false}
use mathlib.Core.List.{List, []}
use mathlib.Core.Logic.{⊎_elim}
use native.Mathlib.Omega.{arith}
use native.Mathlib.Nat.{add-zero, suc-mul, mul-le-mul_left, mul-le-mul_right, eq-zero-or-pos}
use lib.Dec.{leb, ltb, eqb}
use lib.ListN.{length, get_or, take, drop}
use borrow.Author.Tests.{eq-eqb, ne_eqb, lt-ltb, le-ltb, le-leb, lt-leb, ltb-true, ltb-false}
use Rattle.wire.specs.Choice.{choose}
use Rattle.wire.specs.Number.{u32_at}
use Rattle.wire.specs.Verdict.{◌then◌, check, when, from, each, Verdict, Accepted, Refused}
use Rattle.wire.proofs.Verdicts.{check_then, each_accepted}
use Rattle.psv0_layout.specs.Field.{stage, uses_view_id_of, output_vectors, name_offset_of, index_reference_of, row_count}
use Rattle.psv0_layout.specs.Judged.{fields_judged, element_judged, elements_judged}
use Rattle.psv0_layout.specs.Layout.{Body, rows}
use Rattle.psv0_layout.specs.Position.{NoZero, UpToLastZero, Judging, Decided, reference_at, reference_total}
use Rattle.psv0_layout.specs.Reference.{string_good, index_total}
use Rattle.psv0_layout.proofs.Positions.{part_u32, rows_length, rows_at}
use Rattle.psv0_layout.proofs.References.{and_false, no_zero_back, last_zero_found, stop_22, stop_23, go_on, judged_all}
use Rattle.psv0_layout.specs.Given.{tables, sections_judged}

-- ---- 15 to 17: s is the stage, u UsesViewID, v the output vectors of streams 1 to 3
module _ (r : List ℕ) (s : ℕ) (es : s ≡ stage r) where
  pub stage_15 : 15 < s → Refused 15 0 ≡ fields_judged r
  unfolding fields_judged check ◌then◌
  stage_15 h = rw (← es) (simp (lt-leb _ _ h))

  module _ (h : s ≤ 15) (u : ℕ) (eu : u ≡ uses_view_id_of r) where
    pub view_16 : 1 < u → Refused 16 0 ≡ fields_judged r
    unfolding fields_judged check ◌then◌
    view_16 l = rw (← es, ← eu) (simp (le-leb _ _ h, lt-leb _ _ l))

    module _ (l : u ≤ 1) where
      pub geometry_passes : s ≡ 2 → Accepted ≡ fields_judged r
      unfolding fields_judged check ◌then◌
      geometry_passes q = rw (← es, ← eu) (simp (le-leb _ _ h, le-leb _ _ l, eq-eqb _ _ q))

      module _ (q : s ≡ 2 → ⊥) (v : ℕ) (ev : v ≡ output_vectors r 1 + output_vectors r 2 + output_vectors r 3) where
        pub streams_17 : (v ≡ 0 → ⊥) → Refused 17 0 ≡ fields_judged r
        unfolding fields_judged check ◌then◌
        streams_17 z = rw (← es, ← eu, ← ev) (simp (le-leb _ _ h, le-leb _ _ l, ne_eqb _ _ q, ne_eqb _ _ z))

        pub fields_pass : v ≡ 0 → Accepted ≡ fields_judged r
        unfolding fields_judged check ◌then◌
        fields_pass z = rw (← es, ← eu, ← ev) (simp (le-leb _ _ h, le-leb _ _ l, ne_eqb _ _ q, eq-eqb _ _ z))

-- ---- the last zero byte, searched from the end
module _ (t : List ℕ) (i : ℕ) (p : 0 < i) (f : NoZero t i (length t)) where
  again : i - 1 + 1 ≡ i
  again = omega arith

  before : NoZero t (i - 1 + 1) (length t)
  before = rw again f

  pub zero_found : i ≤ length t → get_or t (i - 1) 0 ≡ 0 → UpToLastZero t i
  zero_found h e = rw again at (last_zero_found t (i - 1) (omega arith) e before)

  pub zero_sought : (get_or t (i - 1) 0 ≡ 0 → ⊥) → NoZero t (i - 1) (length t)
  zero_sought e = no_zero_back t (i - 1) (length t) before e

-- ---- 22 and 23: element i of n, s bytes apart in e, with x numbers in the index table, names decided by m and ill; its references are a and, for r rows, c
pub stays_inside : (i n s l : ℕ) → i < n → n * s ≤ l → i * s + s ≤ l
stays_inside i n s l h f = omega (arith, mul-le-mul_right s h, suc-mul i s)

-- records of at least 16 bytes are fewer than their bytes
pub count_least : (n s l : ℕ) → (1 ≤ n → 16 ≤ s) → n * s ≤ l → n * 16 ≤ l
count_least n s l f h = ⊎_elim (λ z. omega arith) (λ k. omega (arith, mul-le-mul_left n (f k))) (eq-zero-or-pos n)

module _ (m ill x n s : ℕ) (e : List ℕ) (b : Body) (j : Judging b m ill x (rows 16 n s e)) where
  count : length b.elements ≡ n
  count = rw j.elements (rows_length 16 n s e)

  module _ (i at a : ℕ) (h : i < n) (p : at ≡ i * s) (ea : a ≡ name_offset_of (take (at + 16 - at) (drop at e)))
      (so_far : each (element_judged b.strings b.indices b.elements) i ≡ Accepted) where
    inside : i < length b.elements
    inside = rw count h

    element : take (at + 16 - at) (drop at e) ≡ get_or b.elements i []
    element = let w : at + 16 - at ≡ 16 = omega arith in rw (j.elements, rows_at 16 n s e i h, w, p)

    name : name_offset_of (get_or b.elements i []) ≡ a
    name = rw (← element) (sym ea)

    decided : i ≤ ill → string_good b.strings a ≡ (ltb a m && not (eqb i ill))
    decided q =
        let same : name_offset_of (get_or (rows 16 n s e) i []) ≡ a = rw (← j.elements) name in
        rw same at (j.names.told i (rw (rows_length 16 n s e) h) q)

    stops : string_good b.strings a ≡ false → Refused 22 i ≡ elements_judged b
    stops q = sym (stop_22 b i a _ _ so_far name refl refl inside q)

    pub name_22 : i ≤ ill → m ≤ a → Refused 22 i ≡ elements_judged b
    name_22 q l = stops (decided q ∙ rw (le-ltb a m l))

    pub ill_22 : a < m → i ≡ ill → Refused 22 i ≡ elements_judged b
    ill_22 l z = stops (decided (omega arith) ∙ rw (lt-ltb a m l, eq-eqb i ill z))

    module _ (l : a < m) (g : i ≤ ill) (z : i ≡ ill → ⊥) (c r : ℕ) (ec : c ≡ index_reference_of (take (at + 16 - at) (drop at e)))
        (er : r ≡ row_count (take (at + 16 - at) (drop at e))) where
      index : index_reference_of (get_or b.elements i []) ≡ c
      index = rw (← element) (sym ec)

      count_of : row_count (get_or b.elements i []) ≡ r
      count_of = rw (← element) (sym er)

      good : string_good b.strings a ≡ true
      good = decided g ∙ rw (lt-ltb a m l, ne_eqb i ill z)

      pub index_23 : x < c + r → Refused 23 i ≡ elements_judged b
      index_23 q = sym (stop_23 b i a c r so_far name index count_of inside good (rw j.indices q))

      pub element_passes : c + r ≤ x → each (element_judged b.strings b.indices b.elements) (i + 1) ≡ Accepted
      element_passes q = go_on b i a c r so_far name index count_of good (rw j.indices q)

  pub elements_pass : (i : ℕ) → n ≡ i → each (element_judged b.strings b.indices b.elements) i ≡ Accepted → Accepted ≡ elements_judged b
  elements_pass i q f = sym (judged_all b i (count ∙ q) f)

-- ---- 24: o is the entry name's reference
pub entry_early : (er : ℕ) (v : Verdict) → er < 3 → Accepted ≡ from 3 er v
unfolding from when
entry_early er v h = rw (lt-leb 3 er h)

module _ (er o m n ill : ℕ) (h : 3 ≤ er) where
  pub entry_24 : m ≤ o → Refused 24 0 ≡ from 3 er (check (ltb o m && not (eqb n ill)) 24 0)
  unfolding from when check
  entry_24 l = rw (le-leb _ _ h) (simp (le-ltb _ _ l))

  module _ (l : o < m) where
    pub entry_ill : n ≡ ill → Refused 24 0 ≡ from 3 er (check (ltb o m && not (eqb n ill)) 24 0)
    unfolding from when check
    entry_ill z = rw (le-leb _ _ h) (simp (lt-ltb _ _ l, eq-eqb _ _ z))

    pub entry_passes : (n ≡ ill → ⊥) → Accepted ≡ from 3 er (check (ltb o m && not (eqb n ill)) 24 0)
    unfolding from when check
    entry_passes z = rw (le-leb _ _ h) (simp (lt-ltb _ _ l, ne_eqb _ _ z))

-- ---- 22 to 24: n elements, s bytes apart in e, and the entry name's reference o, all decided by m and ill
pub total_early : (er n : ℕ) → er < 3 → n ≡ reference_total er n
unfolding reference_total
total_early er n h = rw (lt-leb 3 er h)

pub total_later : (er n : ℕ) → 3 ≤ er → n + 1 ≡ reference_total er n
unfolding reference_total
total_later er n h = rw (le-leb 3 er h)

total_least : (er n : ℕ) → n ≤ reference_total er n
unfolding reference_total
total_least er n = go (leb 3 er)
  where
    go : (t : Bool) → n ≤ choose t (n + 1) n
    go true = omega arith
    go false = omega arith

module _ (er o m ill x n s : ℕ) (e : List ℕ) (b : Body) (es : b.elements ≡ rows 16 n s e) (ex : index_total b.indices ≡ x)
    (q : Decided b.strings (reference_at e s n o) (reference_total er n) m ill) where
  names : Decided b.strings (λ i. name_offset_of (get_or (rows 16 n s e) i [])) (length (rows 16 n s e)) m ill
  unfolding reference_at
  names =
      record {
        told =
            λ i h l.
            let k : i < n = rw (rows_length 16 n s e) at h in
            let w = q.told i (omega (arith, total_least er n)) l in
            let z = add-zero (i * s) in
            rw (rows_at 16 n s e i k, part_u32 e (i * s) 16 0 (omega arith), z) (rw (lt-ltb i n k) at w);
      }

  pub tables_judging : Judging b m ill x (rows 16 n s e)
  tables_judging = record { names = names; indices = ex; elements = es }

  module _ (a : elements_judged b ≡ Accepted) where
    -- no element is the one that isn't good
    none_ill : n ≤ ill
    unfolding elements_judged element_judged
    none_ill = go (ltb ill n) refl
      where
        go : (t : Bool) → ltb ill n ≡ t → n ≤ ill
        go true k =
            let h : ill < length (rows 16 n s e) = rw (rows_length 16 n s e) (ltb-true ill n k) in
            let good : string_good b.strings (name_offset_of (get_or (rows 16 n s e) ill [])) ≡ true =
            rw es at (check_then _ 22 ill _ (each_accepted _ _ ill a (rw es h))).0 in
            let bad = names.told ill h (omega arith) in
            absurd (true≢false (sym good ∙ bad ∙ rw (eq-eqb ill ill refl) (and_false (ltb (name_offset_of (get_or (rows 16 n s e) ill [])) m))))
        go false k = ltb-false ill n k

    pub entry_decided : from 3 er (check (ltb o m && not (eqb n ill)) 24 0) ≡ from 3 er (check (string_good b.strings o) 24 0)
    unfolding from when reference_at reference_total
    entry_decided = go (leb 3 er) refl
      where
        go : (t : Bool) → leb 3 er ≡ t
            → from 3 er (check (ltb o m && not (eqb n ill)) 24 0) ≡ from 3 er (check (string_good b.strings o) 24 0)
        go true k =
            let w = q.told n (rw k (omega arith)) none_ill in
            rw (rw (le-ltb n n (omega arith)) at w)
        go false k = rw k

-- ---- 15 to 17 and 22 to 24 of sections that are given one by one
module _ (er : ℕ) (r t x e : List ℕ) where
  pub given_early : er ≡ 0 → Accepted ≡ sections_judged er r t x e
  unfolding sections_judged from when
  given_early z = rw z

  module _ (later : er ≡ 0 → ⊥) (f : Verdict) (ef : f ≡ fields_judged r) where
    pub given_fields : {n p : ℕ} → f ≡ Refused n p → Refused n p ≡ sections_judged er r t x e
    unfolding sections_judged from when ◌then◌
    given_fields q = rw (le-leb 1 er (omega arith), ← ef, q)

    pub given_tables : {v : Verdict} → f ≡ Accepted
        → v ≡ (elements_judged (tables t x e) then from 3 er (check (string_good t (u32_at r 48)) 24 0)) → v ≡ sections_judged er r t x e
    unfolding sections_judged from when ◌then◌
    given_tables a k = k ∙ rw (le-leb 1 er (omega arith), ← ef, a)
