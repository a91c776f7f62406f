-- How many pairs of names are compared: at most n(n - 1)/2, exactly that where the table passes, and where it is refused.
-- Assumes nothing.
use Prim.Native.Nat.{ℕ, zero, suc, ◌+◌, ◌-◌, ◌*◌, ◌/◌, ◌≤◌, ◌<◌}
use mathlib.Core.Path.{◌≡◌, refl, sym, ◌∙◌}
use mathlib.Core.Bool.{Bool, true, false}
use mathlib.Core.List.{List}
use mathlib.Core.Logic.{◌⊎◌, inl, inr}
use native.Mathlib.Omega.{arith}
use Rattle.wire.specs.Search.{first}
use Rattle.wire.specs.Sum.{sum_below}
use Rattle.wire.specs.Verdict.{◌then◌, check, each, Verdict, Accepted, Refused}
use Rattle.wire.proofs.Sums.{sum_begin, sum_grows, triangle}
use Rattle.wire.proofs.Verdicts.{then_accepted}
use Rattle.part_table_layout.specs.Pairs.{ends, pairs_from, before_names, pairs_if, pairs_compared}
use Rattle.part_table_layout.specs.Table.{may_stand, name_judged, count_of, name_at, header_judged, part_judged, parts_judged, table_judged}
use Rattle.part_table_layout.proofs.Counting.{Compared, compare_ends, matched, pairs_exact, pairs_bound}
use Rattle.part_table_layout.proofs.Accepted.{header_told}

-- where 9 refuses: all parts before that one pass, and it may not stand
nine_told : (names : ℕ → ℕ) (n : ℕ) {m p : ℕ} → each (name_judged names) n ≡ Refused m p
    → (m ≡ 9) × (p < n) × (each (name_judged names) p ≡ Accepted) × (may_stand names (names p) p ≡ false)
unfolding each name_judged ◌then◌ check
nine_told names zero e = absurd (let z : ◌≡◌ {A = ℕ} 0 1 = cc in omega arith)
nine_told names (suc k) {m} {p} e = go (each (name_judged names) k) refl (nine_told names k) (may_stand names (names k) k) refl e
  where
    go : (v : Verdict) → each (name_judged names) k ≡ v
        → (each (name_judged names) k ≡ Refused m p → (m ≡ 9) × (p < k) × (each (name_judged names) p ≡ Accepted) × (may_stand names (names p) p ≡ false))
        → (t : Bool) → may_stand names (names k) k ≡ t → (v then check t 9 k) ≡ Refused m p
        → (m ≡ 9) × (p < suc k) × (each (name_judged names) p ≡ Accepted) × (may_stand names (names p) p ≡ false)
    go (Refused i j) q r t u e = let (a, l, f, s) = r (q ∙ e) in (a, omega arith, f, s)
    go Accepted q r true u e = absurd (let z : ◌≡◌ {A = ℕ} 0 1 = cc in omega arith)
    go Accepted q r false u e = let w : p ≡ k = cc in (cc, omega arith, rw w q, rw w u)

-- ---- a container
module _ (b : List ℕ) where
  -- the checks before 9, and then 9
  table_then : table_judged b ≡ (before_names b then each (name_judged (name_at b)) (count_of b))
  unfolding table_judged parts_judged before_names ◌then◌
  table_then = go (header_judged b)
    where
      go : (v : Verdict)
          → (v then (each (part_judged b) (count_of b) then each (name_judged (name_at b)) (count_of b)))
          ≡ ((v then each (part_judged b) (count_of b)) then each (name_judged (name_at b)) (count_of b))
      go Accepted = refl
      go (Refused m p) = refl

  whole : pairs_from (name_at b) 0 (count_of b) ≤ sum_below (λ i. i) (count_of b)
  whole =
      let r = pairs_bound (name_at b) 0 (count_of b) in
      let z = sum_begin (λ i. i) in
      let e : 0 + count_of b ≡ count_of b = omega arith in
      let q = rw e at r in
      omega arith

  -- "is at most n(n - 1)/2"
  pub compared_bound : pairs_compared b ≤ count_of b * (count_of b - 1) / 2
  unfolding pairs_compared
  compared_bound = go (before_names b)
    where
      go : (v : Verdict) → pairs_if v b ≤ count_of b * (count_of b - 1) / 2
      go Accepted = let w = whole in let t = triangle (count_of b) in omega arith
      go (Refused m p) = omega arith

  -- "which is 4,560 at 96 parts": more parts are not compared
  pub compared_greatest : pairs_compared b ≤ 4560
  unfolding pairs_compared before_names
  compared_greatest = go (before_names b) refl
    where
      go : (v : Verdict) → before_names b ≡ v → pairs_if v b ≤ 4560
      go (Refused m p) e = omega arith
      go Accepted e =
          let f = (header_told b (then_accepted (header_judged b) _ e).0).few in
          let g = sum_grows (λ i. i) (count_of b) 96 f in
          let u : sum_below (λ i. i) 96 ≡ 4560 = triangle 96 in
          let w = whole in
          omega arith

  -- exactly that for every table that passes
  pub compared_exact : table_judged b ≡ Accepted → pairs_compared b ≡ count_of b * (count_of b - 1) / 2
  unfolding pairs_compared
  compared_exact h =
      let t = then_accepted (before_names b) _ (sym table_then ∙ h) in
      let r = pairs_exact (name_at b) (count_of b) t.1 in
      let s = triangle (count_of b) in
      rw t.0 (omega arith)

  -- "and is 0 when a check before 9 refuses"
  pub compared_none : {m p : ℕ} → before_names b ≡ Refused m p → pairs_compared b ≡ 0
  unfolding pairs_compared
  compared_none h = rw h

  -- a refusal: by a check before 9, with no pair; or by 9 at part k, with all pairs of the parts before it, and its own up to the first match
  pub compared_refused : {m k : ℕ} → table_judged b ≡ Refused m k
      → ((before_names b ≡ Refused m k) × (pairs_compared b ≡ 0))
      ⊎ ((m ≡ 9) × (pairs_compared b ≡ k * (k - 1) / 2 + suc (first (ends (name_at b) (name_at b k)) k)))
  unfolding pairs_compared ◌then◌ pairs_from
  compared_refused {m} {k} h = go (before_names b) refl (sym table_then ∙ h)
    where
      go : (v : Verdict) → before_names b ≡ v → (v then each (name_judged (name_at b)) (count_of b)) ≡ Refused m k
          → ((before_names b ≡ Refused m k) × (pairs_if (before_names b) b ≡ 0))
          ⊎ ((m ≡ 9) × (pairs_if (before_names b) b ≡ k * (k - 1) / 2 + suc (first (ends (name_at b) (name_at b k)) k)))
      go (Refused i j) q e = inl (q ∙ e, rw q)
      go Accepted q e =
          let (a, l, f, s) = nine_told (name_at b) (count_of b) e in
          let w : Compared (name_at b) (count_of b) k (sum_below (λ i. i) k) = record { within = omega arith; fine = f; pairs = refl } in
          let r = compare_ends (name_at b) w l refl (matched (name_at b) k s) in
          let u = triangle k in
          inr (a, rw q (omega arith))
