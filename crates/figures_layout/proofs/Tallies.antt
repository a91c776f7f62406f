-- Laws of tallies: one history after another, any order.
-- Assumes nothing.
use Prim.Native.Nat.{ℕ, suc, ◌+◌, ◌≤◌}
use mathlib.Core.Path.{◌≡◌, refl, ◌∙◌, ap, ap₂}
use mathlib.Core.Bool.{Bool, true, false}
use mathlib.Core.List.{List, [], ◌∷◌, ◌++◌, Permᴰ}
use native.Mathlib.Omega.{arith}
use lib.ListN.{length}
use Rattle.wire.specs.Choice.{choose}
use Rattle.std.specs.Prelude.{Result, Ok, Err}
use Rattle.wire.specs.declared.Refusal.{Refusal}
use Rattle.figures_layout.specs.declared.Told.{Told}
use Rattle.figures_layout.specs.declared.Answer.{Answer}
use Rattle.figures_layout.specs.Kinds.{answer_of, history, when_told, refuses, is_accepted, is_refused, accepted_length, tally, total}

-- ---- one history after another
pub tally_append : (p : Answer → Bool) (h k : List Answer) → tally p (h ++ k) ≡ tally p h + tally p k
unfolding tally
tally_append p [] k = omega arith
tally_append p (a ∷ h) k = let e = tally_append p h k in omega arith

pub total_append : (h k : List Answer) → total (h ++ k) ≡ total h + total k
unfolding total
total_append [] k = omega arith
total_append (a ∷ h) k = let e = total_append h k in omega arith

pub history_append : (k : ℕ) (l m : List (List ℕ)) → history k (l ++ m) ≡ history k l ++ history k m
unfolding history
history_append k [] m = refl
history_append k (b ∷ l) m = ap (λ (h : List Answer). answer_of k b ∷ h) (history_append k l m)

pub history_length : (k : ℕ) (l : List (List ℕ)) → length (history k l) ≡ length l
unfolding history
history_length k [] = refl
history_length k (b ∷ l) = ap suc (history_length k l)

-- ---- how much a tally can be
one_le : (t : Bool) → choose t 1 0 ≤ 1
one_le true = omega arith
one_le false = omega arith

pub tally_le : (p : Answer → Bool) (h : List Answer) → tally p h ≤ length h
unfolding tally
tally_le p [] = omega arith
tally_le p (a ∷ h) = let e = tally_le p h in let o = one_le (p a) in omega arith

one_of : (r : Result Told Refusal) → choose (when_told (λ t. true) r) 1 0 + choose (refuses r) 1 0 ≡ 1
one_of (Ok t) = refl
one_of (Err r) = refl

pub all_tallied : (h : List Answer) → tally is_accepted h + tally is_refused h ≡ length h
unfolding tally
all_tallied [] = refl
all_tallied (a ∷ h) = let q = all_tallied h in let o = one_of a.opening in omega arith

-- ---- any order
pub tally_order : (p : Answer → Bool) {h k : List Answer} → Permᴰ h k → tally p h ≡ tally p k
unfolding tally
tally_order p Permᴰ.nil = refl
tally_order p (Permᴰ.cons e r) = ap₂ (λ (a : Answer) (n : ℕ). choose (p a) 1 0 + n) e (tally_order p r)
tally_order p (Permᴰ.swap {a} {b} e f) = rw (← e, ← f) (omega arith)
tally_order p (Permᴰ.trans r s) = tally_order p r ∙ tally_order p s

pub total_order : {h k : List Answer} → Permᴰ h k → total h ≡ total k
unfolding total
total_order Permᴰ.nil = refl
total_order (Permᴰ.cons e r) = ap₂ (λ (a : Answer) (n : ℕ). accepted_length a + n) e (total_order r)
total_order (Permᴰ.swap e f) = rw (← e, ← f) (omega arith)
total_order (Permᴰ.trans r s) = total_order r ∙ total_order s

pub length_order {ℓ} : {A : Type ℓ} {h k : List A} → Permᴰ h k → length h ≡ length k
length_order Permᴰ.nil = refl
length_order (Permᴰ.cons e r) = ap suc (length_order r)
length_order (Permᴰ.swap e f) = refl
length_order (Permᴰ.trans r s) = length_order r ∙ length_order s

pub history_order : (k : ℕ) {l m : List (List ℕ)} → Permᴰ l m → Permᴰ (history k l) (history k m)
unfolding history
history_order k Permᴰ.nil = Permᴰ.nil
history_order k (Permᴰ.cons e r) = Permᴰ.cons (ap (answer_of k) e) (history_order k r)
history_order k (Permᴰ.swap e f) = Permᴰ.swap (ap (answer_of k) e) (ap (answer_of k) f)
history_order k (Permᴰ.trans r s) = Permᴰ.trans (history_order k r) (history_order k s)
