-- The sizes of masks 0 to 10, mask by mask, and their sums.
-- Assumes nothing.
use Prim.Native.Nat.{ℕ, zero, suc, ◌+◌, ◌-◌, ◌*◌, ◌≤◌, ◌<◌, min}
use mathlib.Core.Path.{◌≡◌, refl, sym, ◌∙◌}
use mathlib.Core.Bool.{Bool, true, false, ◌&&◌, ◌||◌}
use mathlib.Core.List.{List, [], ◌∷◌}
use mathlib.Core.Logic.{◌⊎◌, ⊎_elim}
use native.Mathlib.Numerals.{add-one}
use native.Mathlib.Omega.{arith}
use native.Mathlib.Nat.{eq-or-lt_of_le, mul-le-mul_left, mul-le-mul_right}
use lib.Dec.{leb, eqb}
use lib.ListN.{length, get_or, take, get_or-eq_default}
use lib.Seq.{take_all}
use borrow.Author.Tests.{eq-eqb, ne_eqb, eqb-true, leb-true, leb-false}
use Rattle.wire.specs.Choice.{choose}
use Rattle.wire.specs.Number.{Bytes}
use Rattle.psv0_layout.specs.Field.{stage, uses_view_id_of, output_vectors, input_vectors_of, patch_vectors_of, words, words_if, mask_words_of, sum, mask_bytes_of}

if_same : (t : Bool) (m n : ℕ) → (t ≡ true → m ≡ n) → words_if t m ≡ words_if t n
if_same true m n h = h refl
if_same false m n h = refl

module _ (r : List ℕ) where
  eleven : length (mask_words_of r) ≡ 11
  unfolding mask_words_of
  eleven = refl

  -- ---- each mask
  view : (m : ℕ) → m < 4 → get_or (mask_words_of r) m 0 ≡ words_if (eqb (uses_view_id_of r) 1) (words (output_vectors r m))
  unfolding mask_words_of
  view zero h = refl
  view (suc zero) h = refl
  view (suc (suc zero)) h = refl
  view (suc (suc (suc zero))) h = refl
  view (suc (suc (suc (suc m)))) h = absurd (omega arith)

  patch_view : get_or (mask_words_of r) 4 0 ≡ words_if (eqb (uses_view_id_of r) 1 && (eqb (stage r) 3 || eqb (stage r) 13)) (words (patch_vectors_of r))
  unfolding mask_words_of
  patch_view = refl

  output : (m : ℕ) → m < 4 → get_or (mask_words_of r) (suc (suc (suc (suc (suc m))))) 0 ≡ words (output_vectors r m) * input_vectors_of r * 4
  unfolding mask_words_of
  output zero h = refl
  output (suc zero) h = refl
  output (suc (suc zero)) h = refl
  output (suc (suc (suc zero))) h = refl
  output (suc (suc (suc (suc m)))) h = absurd (omega arith)

  beyond : (m : ℕ) → 11 ≤ m → get_or (mask_words_of r) m 0 ≡ 0
  beyond m h = get_or-eq_default (mask_words_of r) 0 (omega (arith, eleven))

  -- ---- by the bytes that were read: u is UsesViewID, s the stage
  module _ (m u : ℕ) (eu : u ≡ uses_view_id_of r) where
    pub view_none : m < 5 → (u ≡ 1 → ⊥) → 0 ≡ get_or (mask_words_of r) m 0
    view_none h q =
        let z : eqb (uses_view_id_of r) 1 ≡ false = ne_eqb _ _ (λ e. q (eu ∙ e)) in
        let k : m ≤ 4 = omega arith in
        ⊎_elim (λ (e : m ≡ 4). rw (e, patch_view) (simp z)) (λ l. rw (view m l, z)) (eq-or-lt_of_le k)

    pub view_some : m < 4 → u ≡ 1 → (v : ℕ) → v ≡ get_or r (32 + m) 0 → words v ≡ get_or (mask_words_of r) m 0
    view_some h q v ev =
        let z : eqb (uses_view_id_of r) 1 ≡ true = eq-eqb _ _ (sym eu ∙ q) in
        rw (view m h, z, ev)

    module _ (low : 4 ≤ m) (high : m < 5) (q : u ≡ 1) (s : ℕ) (es : s ≡ stage r) where
      four : m ≡ 4
      four = omega arith

      uses : uses_view_id_of r ≡ 1
      uses = sym eu ∙ q

      pub patch_some : (s ≡ 3) ⊎ (s ≡ 13) → (p : ℕ) → p ≡ get_or r 26 0 → words p ≡ get_or (mask_words_of r) m 0
      patch_some h p ep =
          ⊎_elim (λ e. let z : stage r ≡ 3 = sym es ∙ e in rw (four, patch_view, uses, z, ep))
          (λ e. let z : stage r ≡ 13 = sym es ∙ e in rw (four, patch_view, uses, z, ep)) h

      pub patch_none : (s ≡ 3 → ⊥) → (s ≡ 13 → ⊥) → 0 ≡ get_or (mask_words_of r) m 0
      patch_none f g =
          let z3 : eqb (stage r) 3 ≡ false = ne_eqb _ _ (λ e. f (es ∙ e)) in
          let z13 : eqb (stage r) 13 ≡ false = ne_eqb _ _ (λ e. g (es ∙ e)) in
          rw (four, patch_view, uses) (simp (z3, z13))

  pub output_some : (m : ℕ) → 5 ≤ m → m < 9 → (v n : ℕ) → v ≡ get_or r (27 + m) 0 → n ≡ input_vectors_of r → words v * n * 4 ≡ get_or (mask_words_of r) m 0
  output_some m l h v n ev en =
      let e : m ≡ suc (suc (suc (suc (suc (m - 5))))) = omega arith in
      let z : 27 + m ≡ 32 + (m - 5) = omega arith in
      rw (ev, en, z) (sym (rw (← e) at (output (m - 5) (omega arith))))

  -- a map that stage k alone has, with its vectors and inputs at o and i
  module _ (k o i s : ℕ) (es : s ≡ stage r) where
    pub stage_none : (s ≡ k → ⊥) → 0 ≡ words_if (eqb (stage r) k) (words (get_or r o 0) * get_or r i 0 * 4)
    stage_none q = rw (← es) (simp (ne_eqb s k q))

    pub stage_some : s ≡ k → (v n : ℕ) → v ≡ get_or r o 0 → n ≡ get_or r i 0 → words v * n * 4 ≡ words_if (eqb (stage r) k) (words (get_or r o 0) * get_or r i 0 * 4)
    stage_some q v n ev en = rw (← es, ← ev, ← en) (simp (eq-eqb s k q))

  -- masks 9 and 10, where byte 26 counts as the patch vectors
  pub hull_mask : words_if (eqb (stage r) 3) (words (get_or r 26 0) * input_vectors_of r * 4) ≡ get_or (mask_words_of r) 9 0
  unfolding mask_words_of
  hull_mask = if_same (eqb (stage r) 3) _ _ (λ q. let z : stage r ≡ 3 = eqb-true (stage r) 3 q in rw z)

  pub domain_mask : words_if (eqb (stage r) 4) (words (output_vectors r 0) * get_or r 26 0 * 4) ≡ get_or (mask_words_of r) 10 0
  unfolding mask_words_of
  domain_mask = if_same (eqb (stage r) 4) _ _ (λ q. let z : stage r ≡ 4 = eqb-true (stage r) 4 q in rw z)

  pub mask_none : (m : ℕ) → 9 ≤ m → (m ≡ 9 → ⊥) → (m ≡ 10 → ⊥) → 0 ≡ get_or (mask_words_of r) m 0
  mask_none m h f g =
      ⊎_elim (λ e. absurd (f (sym e))) (λ l. ⊎_elim (λ e. absurd (g (sym e))) (λ i. sym (beyond m i)) (eq-or-lt_of_le l)) (eq-or-lt_of_le h)

-- ---- how many words there can be
pub product_few : (x n : ℕ) → x ≤ 32 → n < 256 → x * n ≤ 8160
product_few x n h l = let k : n ≤ 255 = omega arith in omega (arith, mul-le-mul_right n h, mul-le-mul_left 32 k)

words_few : (v : ℕ) → v < 256 → words v ≤ 32
words_few v h = omega arith

module _ (r : List ℕ) (b : Bytes r) where
  view_few : (t : Bool) (v : ℕ) → v < 256 → words_if t (words v) ≤ 32640
  view_few true v h = omega (arith, words_few v h)
  view_few false v h = omega arith

  output_few : (v n : ℕ) → v < 256 → n < 256 → words v * n * 4 ≤ 32640
  output_few v n h l = omega (arith, product_few (words v) n (words_few v h) l)

  map_few : (t : Bool) (v n : ℕ) → v < 256 → n < 256 → words_if t (words v * n * 4) ≤ 32640
  map_few true v n h l = output_few v n h l
  map_few false v n h l = omega arith

  patch_few : patch_vectors_of r < 256
  patch_few = go (eqb (stage r) 3 || eqb (stage r) 4 || eqb (stage r) 13)
    where
      go : (t : Bool) → choose t (get_or r 26 0) 0 < 256
      go true = b.below 26
      go false = omega arith

  pub mask_few : (m : ℕ) → get_or (mask_words_of r) m 0 ≤ 32640
  unfolding mask_words_of
  mask_few zero = view_few (eqb (uses_view_id_of r) 1) _ (b.below 32)
  mask_few (suc zero) = view_few (eqb (uses_view_id_of r) 1) _ (b.below 33)
  mask_few (suc (suc zero)) = view_few (eqb (uses_view_id_of r) 1) _ (b.below 34)
  mask_few (suc (suc (suc zero))) = view_few (eqb (uses_view_id_of r) 1) _ (b.below 35)
  mask_few (suc (suc (suc (suc zero)))) = view_few (eqb (uses_view_id_of r) 1 && (eqb (stage r) 3 || eqb (stage r) 13)) _ patch_few
  mask_few (suc (suc (suc (suc (suc zero))))) = output_few _ _ (b.below 32) (b.below 31)
  mask_few (suc (suc (suc (suc (suc (suc zero)))))) = output_few _ _ (b.below 33) (b.below 31)
  mask_few (suc (suc (suc (suc (suc (suc (suc zero))))))) = output_few _ _ (b.below 34) (b.below 31)
  mask_few (suc (suc (suc (suc (suc (suc (suc (suc zero)))))))) = output_few _ _ (b.below 35) (b.below 31)
  mask_few (suc (suc (suc (suc (suc (suc (suc (suc (suc zero))))))))) = map_few (eqb (stage r) 3) _ _ patch_few (b.below 31)
  mask_few (suc (suc (suc (suc (suc (suc (suc (suc (suc (suc zero)))))))))) = map_few (eqb (stage r) 4) _ _ (b.below 32) patch_few
  mask_few (suc (suc (suc (suc (suc (suc (suc (suc (suc (suc (suc m))))))))))) = omega arith

-- ---- sums
-- a mask ends before the end of all
pub sum_inside : (l : List ℕ) (m : ℕ) → sum (take m l) + get_or l m 0 ≤ sum l
unfolding sum
sum_inside [] zero = omega arith
sum_inside [] (suc m) = omega arith
sum_inside (x ∷ l) zero = omega arith
sum_inside (x ∷ l) (suc m) = omega (arith, sum_inside l m)

pub sum_next : (l : List ℕ) (i : ℕ) → sum (take (suc i) l) ≡ sum (take i l) + get_or l i 0
unfolding sum
sum_next [] zero = refl
sum_next [] (suc i) = refl
sum_next (x ∷ l) zero = omega arith
sum_next (x ∷ l) (suc i) = let e = sum_next l i in omega arith

sum_few : (r : List ℕ) → Bytes r → (i : ℕ) → sum (take i (mask_words_of r)) ≤ 32640 * i
sum_few r b zero = unfold sum in omega arith
sum_few r b (suc i) =
    let h = sum_few r b i in
    let k = mask_few r b i in
    rw (sum_next (mask_words_of r) i) (omega arith)

-- a loop that adds the masks below n, and ends
module _ (r : List ℕ) where
  pub none_before : 0 ≡ sum (take 0 (mask_words_of r))
  unfolding sum
  none_before = refl

  module _ (b : Bytes r) (i total n : ℕ) (e : total ≡ sum (take i (mask_words_of r))) (f : n ≡ get_or (mask_words_of r) i 0) where
    pub one_more : total + n ≡ sum (take (i + 1) (mask_words_of r))
    one_more = rw (add-one i, sum_next (mask_words_of r) i, e, f)

    pub total_fits : i ≤ 11 → total + n < 18446744073709551616
    total_fits h = omega (arith, sum_few r b i, mask_few r b i)

  pub all_before : (m i total : ℕ) → i ≡ min m 11 → total ≡ sum (take i (mask_words_of r)) → total ≡ sum (take m (mask_words_of r))
  all_before m i total e f = f ∙ go (leb m 11) refl
    where
      go : (t : Bool) → leb m 11 ≡ t → sum (take i (mask_words_of r)) ≡ sum (take m (mask_words_of r))
      go true q = let z : i ≡ m = omega (arith, leb-true m 11 q) in rw z
      go false q =
          let k : i ≡ 11 = omega (arith, leb-false m 11 q) in
          rw (take_all i (mask_words_of r) (omega (arith, eleven r)), take_all m (mask_words_of r) (omega (arith, eleven r, leb-false m 11 q)))

  module _ (n : ℕ) (e : n ≡ sum (take 11 (mask_words_of r))) where
    pub bytes_are : n * 4 ≡ mask_bytes_of r
    bytes_are = rw (e, take_all 11 (mask_words_of r) (omega (arith, eleven r)))

    pub bytes_fit : Bytes r → n * 4 < 18446744073709551616
    bytes_fit b = omega (arith, sum_few r b 11)
