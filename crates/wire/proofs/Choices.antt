-- Laws of tests and choices.
-- Assumes nothing.
use mathlib.Core.Path.{◌≡◌, refl, sym, ◌∙◌}
use mathlib.Core.Bool.{Bool, true, false, ◌&&◌, true≢false}
use Prim.Native.Nat.{ℕ}
use lib.Dec.{eqb}
use borrow.Author.Tests.{eq-eqb, ne_eqb}
use Rattle.wire.specs.Choice.{choose}

-- both tests of a conjunction that is true are true
pub both : (s t : Bool) → (s && t) ≡ true → (s ≡ true) × (t ≡ true)
both true t h = (refl, h)
both false t h = absurd (true≢false (sym h))

-- two choices by one test agree where they agree while the test is true
pub choose_eq : {A : Type 0} (t : Bool) (x y z : A) → (t ≡ true → x ≡ y) → choose t x z ≡ choose t y z
choose_eq true x y z h = h refl
choose_eq false x y z h = refl

-- a test of two numbers, at values that are equal to them
pub differ : {r s x y : ℕ} → r ≡ x → s ≡ y → (r ≡ s → ⊥) → eqb x y ≡ false
differ {r} {s} {x} {y} p q h = ne_eqb x y (λ e. h (p ∙ e ∙ sym q))

pub agree : {r s x y : ℕ} → r ≡ x → s ≡ y → r ≡ s → eqb x y ≡ true
agree {r} {s} {x} {y} p q h = eq-eqb x y (sym p ∙ h ∙ q)
