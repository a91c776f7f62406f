-- Joining: two well-formed strings, one after the other, are well formed, and their code points add.
-- Assumes nothing.
use Prim.Native.Nat.{ℕ, zero, suc, ◌+◌, ◌≤◌}
use mathlib.Core.Path.{◌≡◌, refl, sym, ◌∙◌, ap}
use mathlib.Core.Bool.{true, true≢false}
use mathlib.Core.List.{List, [], ◌∷◌, ◌++◌}
use native.Mathlib.Omega.{arith}
use lib.ListN.{length}
use Rattle.utf8_layout.specs.Sequence.{Count, sequences, broken, table, front, more, after, counted, is_whole, number_in, well_formed, code_points}
use Rattle.utf8_layout.proofs.Rows.{front_length, front_append}

-- the sum of two counts
plus : Count → Count → Count
plus (sequences a) (sequences b) = sequences (a + b)
plus (sequences a) broken = broken
plus broken c = broken

plus_none : (c : Count) → c ≡ plus (sequences 0) c
unfolding plus
plus_none (sequences n) = ap sequences (omega arith)
plus_none broken = refl

plus_more : (c d : Count) → more (plus c d) ≡ plus (more c) d
unfolding plus more
plus_more (sequences a) (sequences b) = ap sequences (omega arith)
plus_more (sequences a) broken = refl
plus_more broken d = refl

pub whole_more : (c : Count) → is_whole (more c) ≡ is_whole c
unfolding more
whole_more (sequences n) = refl
whole_more broken = refl

joined : (l m : List ℕ) (k : ℕ) → k ≤ length l → is_whole (counted l k) ≡ true → counted (l ++ m) k ≡ plus (counted l k) (counted m 0)
unfolding counted
joined [] m zero h c = plus_none (counted m 0)
joined [] m (suc k) h c = absurd (omega arith)
joined (x ∷ l) m (suc k) h c = joined l m k (omega arith) c
joined (x ∷ l) m zero h c = go (front table (x ∷ l)) refl (front_length table (x ∷ l)) c (λ k. joined l m k)
  where
    go : (n : ℕ) → front table (x ∷ l) ≡ n → n ≤ suc (length l) → is_whole (after n (λ k. counted l k)) ≡ true
        → ((k : ℕ) → k ≤ length l → is_whole (counted l k) ≡ true → counted (l ++ m) k ≡ plus (counted l k) (counted m 0))
        → after (front table (x ∷ l ++ m)) (λ k. counted (l ++ m) k) ≡ plus (after n (λ k. counted l k)) (counted m 0)
    go zero e g c f = unfold after in absurd (true≢false (sym c))
    go (suc n) e g c f =
        unfold after in
        rw (front_append x l m (rw e (omega arith)), e, f n (omega arith) (sym (whole_more (counted l n)) ∙ c)) (plus_more (counted l n) (counted m 0))

whole_plus : (c d : Count) → is_whole c ≡ true → is_whole d ≡ true → (is_whole (plus c d) ≡ true) × (number_in (plus c d) ≡ number_in c + number_in d)
unfolding plus
whole_plus (sequences a) (sequences b) h g = (refl, refl)
whole_plus (sequences a) broken h g = absurd (true≢false (sym g))
whole_plus broken d h g = absurd (true≢false (sym h))

module _ (l m : List ℕ) (h : well_formed l ≡ true) (g : well_formed m ≡ true) where
  both_whole : (is_whole (counted (l ++ m) 0) ≡ true) × (number_in (counted (l ++ m) 0) ≡ number_in (counted l 0) + number_in (counted m 0))
  unfolding well_formed
  both_whole = rw (joined l m 0 (omega arith) h) (whole_plus (counted l 0) (counted m 0) h g)

  pub join_well : well_formed (l ++ m) ≡ true
  unfolding well_formed
  join_well = both_whole.0

  pub join_points : code_points (l ++ m) ≡ code_points l + code_points m
  unfolding code_points
  join_points = both_whole.1
