-- Laws of verdicts: what an accepting row of checks tells, when there is one, and when two rows agree.
-- Assumes nothing.
use Prim.Native.Nat.{ℕ, zero, suc, ◌≤◌, ◌<◌}
use mathlib.Core.Path.{◌≡◌, refl, sym, ◌∙◌, ap, ap₂}
use mathlib.Core.Bool.{Bool, true, false, ◌&&◌, true≢false}
use mathlib.Core.Logic.{◌⊎◌, inl, inr, ⊎_elim}
use native.Mathlib.Omega.{arith}
use native.Mathlib.Nat.{le_trans, le_of_suc-le-suc, eq-or-lt_of_le}
use native.Mathlib.Decide.{le_ind}
use lib.Dec.{leb}
use borrow.Author.Tests.{le-leb, leb-true}
use Rattle.std.specs.Prelude.{Result, Ok, Err, IsErr, IsErrAnd}
use Rattle.wire.specs.Verdict.{◌then◌, check, when, from, each, under, verdict_of, Verdict, Accepted, Refused}
use Rattle.wire.specs.declared.Refusal.{Refusal}

infixl 20 ◌⊑◌
-- w refuses wherever v does, with the same number and place
abbrev pub ◌⊑◌ : Verdict → Verdict → Type 0
v ⊑ w = (v ≡ Accepted) ⊎ (v ≡ w)

pub then_⊑ : (a : Verdict) {v w : Verdict} → v ⊑ w → (a then v) ⊑ (a then w)
unfolding ◌then◌
then_⊑ Accepted h = h
then_⊑ (Refused n p) h = inr refl

when_⊑ : (s t : Bool) {v w : Verdict} → (s ≡ true → t ≡ true) → v ⊑ w → when s v ⊑ when t w
unfolding when
when_⊑ false t h r = inl refl
when_⊑ true true h r = r
when_⊑ true false h r = let z : true ≡ false = sym (h refl) in absurd (true≢false z)

pub from_⊑ : (e : ℕ) {a b : ℕ} {v w : Verdict} → a ≤ b → v ⊑ w → from e a v ⊑ from e b w
unfolding from
from_⊑ e {a} {b} h r = when_⊑ (leb e a) (leb e b) (λ t. le-leb e b (le_trans (leb-true e a t) h)) r

pub refused_on : {v w : Verdict} (n p : ℕ) → v ⊑ w → v ≡ Refused n p → w ≡ Refused n p
refused_on n p (inl e) h = absurd (let z : ◌≡◌ {A = ℕ} 0 1 = cc in omega arith)
refused_on n p (inr e) h = sym e ∙ h

pub accepted_back : {v w : Verdict} → v ⊑ w → w ≡ Accepted → v ≡ Accepted
accepted_back (inl e) h = e
accepted_back (inr e) h = e ∙ h

pub each_cong : (f g : ℕ → Verdict) (n : ℕ) → ((i : ℕ) → i < n → f i ≡ g i) → each f n ≡ each g n
unfolding each
each_cong f g zero h = refl
each_cong f g (suc n) h = ap₂ ◌then◌ (each_cong f g n (λ i l. h i (omega arith))) (h n (omega arith))

-- ---- what a verdict of Accepted tells, and when there is one
pub then_accepted : (a b : Verdict) → (a then b) ≡ Accepted → (a ≡ Accepted) × (b ≡ Accepted)
unfolding ◌then◌
then_accepted Accepted b e = (refl, e)
then_accepted (Refused n p) b e = absurd (let z : ◌≡◌ {A = ℕ} 0 1 = cc in omega arith)

pub check_accepted : (t : Bool) (n p : ℕ) → check t n p ≡ Accepted → t ≡ true
unfolding check
check_accepted true n p e = refl
check_accepted false n p e = absurd (let z : ◌≡◌ {A = ℕ} 0 1 = cc in omega arith)

pub check_then : (t : Bool) (n p : ℕ) (v : Verdict) → (check t n p then v) ≡ Accepted → (t ≡ true) × (v ≡ Accepted)
check_then t n p v e = (check_accepted t n p (then_accepted _ _ e).0, (then_accepted _ _ e).1)

pub from_accepted : (e er : ℕ) (v : Verdict) → e ≤ er → from e er v ≡ Accepted → v ≡ Accepted
unfolding from when
from_accepted e er v h q = simp (le-leb e er h) at q

pub from_is : (e er : ℕ) (v : Verdict) → (e ≤ er → v ≡ Accepted) → from e er v ≡ Accepted
unfolding from when
from_is e er v h = go (leb e er) (λ t. h (leb-true e er t))
  where
    go : (t : Bool) → (t ≡ true → v ≡ Accepted) → when t v ≡ Accepted
    go true k = k refl
    go false k = refl

pub accepted_then : (a b : Verdict) → a ≡ Accepted → b ≡ Accepted → (a then b) ≡ Accepted
unfolding ◌then◌
accepted_then a b p q = simp (p, q)

pub checked : (t : Bool) (n p : ℕ) → t ≡ true → check t n p ≡ Accepted
unfolding check
checked t n p e = simp e

pub check_fails : (t : Bool) (n p : ℕ) → t ≡ false → check t n p ≡ Refused n p
unfolding check
check_fails t n p e = simp e

-- every check of an accepting row accepts
pub each_accepted : (f : ℕ → Verdict) (n k : ℕ) → each f n ≡ Accepted → k < n → f k ≡ Accepted
unfolding each
each_accepted f zero k e h = absurd (omega arith)
each_accepted f (suc n) k e h =
    let r = then_accepted (each f n) (f n) e in
    ⊎_elim (λ q. rw q r.1) (λ q. each_accepted f n k r.0 q) (eq-or-lt_of_le (le_of_suc-le-suc h))

pub each_all : (f : ℕ → Verdict) (n : ℕ) → ((k : ℕ) → k < n → f k ≡ Accepted) → each f n ≡ Accepted
unfolding each
each_all f zero h = refl
each_all f (suc n) h = accepted_then (each f n) (f n) (each_all f n (λ k l. h k (omega arith))) (h n (omega arith))

pub each_none : (f : ℕ → Verdict) → each f 0 ≡ Accepted
unfolding each
each_none f = refl

-- the first of 0, 1, .. that is Refused gives the verdict
pub each_stop : (f : ℕ → Verdict) (i n a b : ℕ) → i < n → each f i ≡ Accepted → f i ≡ Refused a b → each f n ≡ Refused a b
unfolding each ◌then◌
each_stop f i n a b h p q = le_ind (λ (m : ℕ). each f m ≡ Refused a b) (simp (p, q)) (λ m l r. simp r) n h

pub each_next : (f : ℕ → Verdict) (i : ℕ) → each f i ≡ Accepted → f i ≡ Accepted → each f (suc i) ≡ Accepted
unfolding each ◌then◌
each_next f i p q = simp (p, q)

-- a loop that has come to the end
pub each_done : (f : ℕ → Verdict) {i n : ℕ} → i ≤ n → n ≤ i → each f i ≡ Accepted → each f n ≡ Accepted
each_done f {i} {n} h g e = let q : i ≡ n = omega arith in rw q at e

pub check_both : (a b : Bool) (n p : ℕ) (v : Verdict) → (check (a && b) n p then v) ≡ (check a n p then check b n p then v)
unfolding check ◌then◌
check_both true b n p v = refl
check_both false b n p v = refl

pub last_then : (v : Verdict) → v ≡ (v then Accepted)
unfolding ◌then◌
last_then Accepted = refl
last_then (Refused n p) = refl

-- two answers in a row: a first that is Refused, a first that is Accepted
pub stop_then : (a b : Verdict) (n p : ℕ) → a ≡ Refused n p → Refused n p ≡ (a then b)
unfolding ◌then◌
stop_then a b n p e = rw e

pub pass_then : (a b v : Verdict) → a ≡ Accepted → v ≡ b → v ≡ (a then b)
unfolding ◌then◌
pass_then a b v e q = rw (e, q)

-- ---- answers under a verdict
module _ {A : Type 0} (v : Verdict) (x : A) where
  verdict_under : verdict_of (under v x) ≡ v
  unfolding under verdict_of
  verdict_under = go v
    where
      go : (v : Verdict) → verdict_of (under v x) ≡ v
      go Accepted = refl
      go (Refused n p) = refl

  -- an answer refuses or accepts where the verdict does
  pub refuses : {w : Result A Refusal} {n p : ℕ} → w ≡ Err (record { number = n; place = p }) → Refused n p ≡ v → w ≡ under v x
  unfolding under
  refuses e h = e ∙ rw (← h)

  pub accepts : Accepted ≡ v → Ok x ≡ under v x
  unfolding under
  accepts h = rw (← h)

  -- what an answer tells of its verdict and of its value
  module _ {w : Result A Refusal} (hw : w ≡ under v x) where
    pub verdict_is : verdict_of w ≡ v
    verdict_is = ap verdict_of hw ∙ verdict_under

    pub refused_by : {r : Refusal} → w ≡ Err r → v ≡ Refused r.number r.place
    unfolding verdict_of
    refused_by e = sym verdict_is ∙ ap verdict_of e

    pub accepted_by : {y : A} → w ≡ Ok y → v ≡ Accepted
    unfolding verdict_of
    accepted_by e = sym verdict_is ∙ ap verdict_of e

    pub value_by : {y : A} → w ≡ Ok y → y ≡ x
    unfolding under
    value_by {y} e = let z : ◌≡◌ {A = Result A Refusal} (Ok y) (Ok x) = sym e ∙ hw ∙ rw (accepted_by e) in cc

-- the same refusal as an answer of another type, which is what `?` returns
pub passed_on : {A : Type 0} (v : Verdict) (x : A) {w : Result A Refusal} → w ≡ under v x → {B : Type 0} (y : B) {r : Refusal} {q : Result B Refusal} → IsErr q × IsErrAnd q (λ (s : Refusal). s ≡ r) → w ≡ Err r → q ≡ under v y
passed_on v x hw {B} y {r} {q} h e = go q h.1
  where
    go : (q : Result B Refusal) → IsErrAnd q (λ (s : Refusal). s ≡ r) → q ≡ under v y
    go (Ok z) k = absurd k
    go (Err s) k = refuses v y (ap Err k) (sym (refused_by v x hw e))

-- an answer without a value, from its verdict
pub under_verdict : (w : Result Unit Refusal) → under (verdict_of w) tt ≡ w
unfolding under verdict_of
under_verdict (Ok u) = refl
under_verdict (Err r) = refl
