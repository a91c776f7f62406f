-- The steps of the walk at the numbers that the code holds.
-- Assumes nothing.
use Prim.Native.Nat.{ℕ, suc, ◌+◌, ◌-◌, ◌*◌, ◌<◌, ◌≤◌}
use mathlib.Core.Path.{◌≡◌, sym, ◌∙◌, ap}
use mathlib.Core.Bool.{true, false}
use mathlib.Core.List.{List, ◌∷◌}
use native.Mathlib.Numerals.{add-one}
use native.Mathlib.Omega.{arith}
use lib.ListN.{length, get_or, drop, drop_of_length-le, length-drop}
use lib.Seq.{drop-cons, drop-drop}
use borrow.Author.Tests.{lt-ltb, le-ltb, eq-eqb, ne_eqb, le-leb, lt-leb}
use Rattle.std.specs.Prelude.{Result, Ok, Err, IsErr, IsErrAnd}
use Rattle.wire.specs.Verdict.{◌then◌, check, under, Verdict, Accepted, Refused}
use Rattle.wire.specs.declared.Refusal.{Refusal}
use Rattle.wire.proofs.Verdicts.{passed_on, refused_by}
use Rattle.settings_layout.specs.declared.Number.{Number}
use Rattle.settings_layout.specs.declared.RowAlone.{RowAlone}
use Rattle.settings_layout.specs.Groups.{good, grouped, further, number, value_of, size_of, after}
use Rattle.settings_layout.specs.Rules.{row, key_known, in_range}
use Rattle.settings_layout.specs.Shown.{alone_shown}
use Rattle.settings_layout.specs.File.{number_if, number_judged, number_shown, row_of, row_size, row_judged}
use Rattle.settings_layout.proofs.Groupings.{further_short}
use Rattle.settings_layout.proofs.Read.{number_inside}

-- ---- groups
-- the same refusal of the groups further on, which is what `?` returns
pub group_passed : (b : ℕ) {w q : Result Number ℕ} {n : ℕ} → IsErr q × IsErrAnd q (λ (s : ℕ). s ≡ n) → w ≡ Err n → q ≡ grouped b w
unfolding grouped
group_passed b {w} {q} {n} h e = go q h.1
  where
    go : (q : Result Number ℕ) → IsErrAnd q (λ (s : ℕ). s ≡ n) → q ≡ grouped b w
    go (Ok z) k = absurd k
    go (Err s) k = rw e (ap Err k)

pub group_fits : (b : ℕ) (n : Number) (v : ℕ) → v ≡ b - 128 + 128 * n.value → v < 4294967296 → good v (n.size + 1) ≡ grouped b (Ok n)
unfolding grouped
group_fits b n v e h = rw (add-one n.size, ← e, lt-ltb v 4294967296 h)

pub group_large : (b : ℕ) (n : Number) → (b - 128 + 128 * n.value < 4294967296 → ⊥) → Err 54 ≡ grouped b (Ok n)
unfolding grouped
group_large b n h = rw (le-ltb (b - 128 + 128 * n.value) 4294967296 (omega arith))

pub size_short : (k : ℕ) (l : List ℕ) {r : Result Number ℕ} {n : Number} → r ≡ further k l → r ≡ Ok n → n.size ≤ k
size_short k l {r} {n} e q = further_short k l n.value n.size (sym e ∙ q)

pub no_more : (l : List ℕ) (k : ℕ) → k ≡ 0 → Err 54 ≡ further k l
unfolding further
no_more l k e = rw e

module _ (d : List ℕ) (at : ℕ) where
  pub number_ended : length d ≤ at → Err 55 ≡ number (drop at d)
  unfolding number
  number_ended h = rw (drop_of_length-le d {i = at} h)

  pub further_ended : (k : ℕ) → (k ≡ 0 → ⊥) → length d ≤ at → Err 55 ≡ further k (drop at d)
  unfolding further
  further_ended k z h =
      let e : k ≡ suc (k - 1) = omega arith in
      rw (drop_of_length-le d {i = at} h, e)

  module _ (g : at < length d) {b : ℕ} (e : b ≡ get_or d at 0) where
    front : drop at d ≡ b ∷ drop (at + 1) d
    front = drop-cons d at 0 g ∙ rw (e, add-one at)

    pub number_one : b < 128 → good b 1 ≡ number (drop at d)
    unfolding number
    number_one h = rw (front, lt-ltb b 128 h)

    pub number_more : 128 ≤ b → {r x : Result Number ℕ} → r ≡ further 4 (drop (at + 1) d) → x ≡ grouped b r → x ≡ number (drop at d)
    unfolding number
    number_more h q f = f ∙ rw (q, front, le-ltb b 128 h)

    module _ (k : ℕ) (z : k ≡ 0 → ⊥) where
      pub further_long : b < 128 → b ≡ 0 → Err 53 ≡ further k (drop at d)
      unfolding further
      further_long h o =
          let q : k ≡ suc (k - 1) = omega arith in
          rw (front, q, lt-ltb b 128 h, eq-eqb b 0 o)

      pub further_one : b < 128 → (b ≡ 0 → ⊥) → good b 1 ≡ further k (drop at d)
      unfolding further
      further_one h o =
          let q : k ≡ suc (k - 1) = omega arith in
          rw (front, q, lt-ltb b 128 h, ne_eqb b 0 o)

      pub further_more : 128 ≤ b → {r x : Result Number ℕ} → r ≡ further (k - 1) (drop (at + 1) d) → x ≡ grouped b r → x ≡ further k (drop at d)
      unfolding further
      further_more h p f =
          let q : k ≡ suc (k - 1) = omega arith in
          f ∙ sym (rw (front, q, le-ltb b 128 h, p))

-- ---- answers under verdicts
-- the same refusal as an answer under the verdict u, which refuses where v does
pub stopped : {A : Type 0} (v : Verdict) (x : A) {w : Result A Refusal} → w ≡ under v x → (u : Verdict) {B : Type 0} (y : B) {r : Refusal} {q : Result B Refusal}
    → IsErr q × IsErrAnd q (λ (s : Refusal). s ≡ r) → w ≡ Err r → ((n p : ℕ) → v ≡ Refused n p → u ≡ Refused n p) → q ≡ under u y
stopped v x hw u y h e k =
    let f = refused_by v x hw e in
    passed_on v x hw y h e ∙ ap (λ (c : Verdict). under c y) (f ∙ sym (k _ _ f))

-- ---- the number at a place
pub number_there : (p : ℕ) (l : List ℕ) {n : Number} → number l ≡ Ok n → Ok n ≡ under (number_judged p l) (number_shown l)
unfolding under number_judged number_if value_of size_of
number_there p l e = rw e

pub number_missing : (p : ℕ) (l : List ℕ) {n : ℕ} {q : Result Number Refusal} → number l ≡ Err n → q ≡ Err (record { number = n; place = p })
    → q ≡ under (number_judged p l) (number_shown l)
unfolding under number_judged number_if
number_missing p l e f = f ∙ rw e

-- it lies inside
pub number_ends : (d : List ℕ) (at : ℕ) {n : Number} → number_judged at (drop at d) ≡ Accepted → n ≡ number_shown (drop at d) → at + n.size ≤ length d
number_ends d at {n} a e =
    let h = number_inside at (drop at d) a in
    rw e (omega (arith, length-drop at d))

pub number_after : (d : List ℕ) (at : ℕ) {n : Number} → n ≡ number_shown (drop at d) → drop (at + n.size) d ≡ after (drop at d)
unfolding after
number_after d at {n} e = rw e (sym (drop-drop _ at d))

-- ---- a row after one of version w
module _ (d : List ℕ) (p w : ℕ) where
  pub row_no_version : (n q : ℕ) → number_judged p (drop p d) ≡ Refused n q → row_judged w p (drop p d) ≡ Refused n q
  unfolding row_judged ◌then◌
  row_no_version n q e = rw e

  module _ (a : number_judged p (drop p d) ≡ Accepted) {v : Number} (ev : v ≡ number_shown (drop p d)) where
    pub row_falls : v.value < w → Refused 59 p ≡ row_judged w p (drop p d)
    unfolding row_judged check ◌then◌
    row_falls h = rw (a, lt-leb w (value_of (drop p d)) (rw ev at h))

    module _ (h : w ≤ v.value) where
      key_next : drop (p + v.size) d ≡ after (drop p d)
      key_next = number_after d p ev

      rising : row_judged w p (drop p d)
          ≡ (number_judged (p + v.size) (drop (p + v.size) d)
          then check (key_known (value_of (drop (p + v.size) d))) 57 (p + v.size)
          then number_judged (p + v.size + size_of (drop (p + v.size) d)) (after (drop (p + v.size) d))
          then check (in_range (value_of (drop (p + v.size) d)) (value_of (after (drop (p + v.size) d)))) 58 (p + v.size + size_of (drop (p + v.size) d)))
      unfolding row_judged check ◌then◌
      rising = rw (key_next, a, le-leb w (value_of (drop p d)) (rw ev at h)) (rw ev)

      pub row_no_key : (n q : ℕ) → number_judged (p + v.size) (drop (p + v.size) d) ≡ Refused n q → row_judged w p (drop p d) ≡ Refused n q
      unfolding ◌then◌
      row_no_key n q e = rising ∙ rw e

      module _ (b : number_judged (p + v.size) (drop (p + v.size) d) ≡ Accepted) {k : Number} (ek : k ≡ number_shown (drop (p + v.size) d)) where
        pub row_unknown : key_known k.value ≡ false → Refused 57 (p + v.size) ≡ row_judged w p (drop p d)
        unfolding check ◌then◌
        row_unknown g = sym (rising ∙ rw (b, rw ek at g))

        module _ (g : key_known k.value ≡ true) where
          value_next : drop (p + v.size + k.size) d ≡ after (drop (p + v.size) d)
          value_next = number_after d (p + v.size) ek

          known : row_judged w p (drop p d)
              ≡ (number_judged (p + v.size + k.size) (drop (p + v.size + k.size) d)
              then check (in_range k.value (value_of (drop (p + v.size + k.size) d))) 58 (p + v.size + k.size))
          unfolding check ◌then◌
          known = rising ∙ rw (b, rw ek at g, value_next) (rw ek)

          pub row_no_value : (n q : ℕ) → number_judged (p + v.size + k.size) (drop (p + v.size + k.size) d) ≡ Refused n q → row_judged w p (drop p d) ≡ Refused n q
          unfolding ◌then◌
          row_no_value n q e = known ∙ rw e

          module _ (c : number_judged (p + v.size + k.size) (drop (p + v.size + k.size) d) ≡ Accepted) {x : Number} (ex : x ≡ number_shown (drop (p + v.size + k.size) d)) where
            pub row_out : in_range k.value x.value ≡ false → Refused 58 (p + v.size + k.size) ≡ row_judged w p (drop p d)
            unfolding check ◌then◌
            row_out i = sym (known ∙ rw (c, rw ex at i))

            pub row_held : in_range k.value x.value ≡ true → Accepted ≡ row_judged w p (drop p d)
            unfolding check ◌then◌
            row_held i = sym (known ∙ rw (c, rw ex at i))

            pub row_shown : ◌≡◌ {A = RowAlone} (record { row = row v.value k.value x.value; end = p + v.size + k.size + x.size }) (alone_shown p (drop p d))
            unfolding row_of row_size
            row_shown =
                let i : p + v.size + k.size + x.size ≡ p + (v.size + k.size + x.size) = omega arith in
                rw i (rw (ex, value_next) (rw (ek, key_next) (rw ev)))
