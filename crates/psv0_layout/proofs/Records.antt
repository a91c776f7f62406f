-- Laws of the fields of one record.
-- Assumes nothing.
use Rattle.std.specs.Prelude.{Some}
use mathlib.Core.Path.{◌≡◌, refl}
use mathlib.Core.Bool.{Bool, true, false}
use mathlib.Core.List.{List, [], ◌∷◌}
use Prim.Native.Nat.{ℕ, ◌+◌, ◌*◌, ◌≤◌, ◌<◌}
use native.Mathlib.Omega.{arith}
use lib.Dec.{leb, leb-zero}
use lib.ListN.{length, take}
use lib.Seq.{length-take-le}
use borrow.Author.Tests.{lt-ltb, le-ltb, le-leb, lt-leb, leb-true}
use Rattle.wire.specs.Choice.{choose}
use Rattle.wire.specs.Number.{u32_at}
use Rattle.wire.proofs.Numbers.{u32_take}
use Rattle.psv0_layout.specs.Shown.{unset, number, set_if, of_resource}
use Rattle.psv0_layout.specs.Answers.{field_of}
use Rattle.psv0_layout.specs.Parts.{resource_shown}

-- field f of the first w bytes of a record: set where it lies inside
inside : (r : List ℕ) (w f : ℕ) → f < 6 → w ≤ length r → f * 4 + 4 ≤ w → of_resource (take w r ∷ []) 0 f ≡ number (u32_at r (f * 4))
inside r w f l h g =
    let e : length (take w r) ≡ w = length-take-le w r h in
    simp (e, lt-ltb f 6 l, le-leb (f * 4 + 4) w g, u32_take w r (f * 4) g)

outside : (r : List ℕ) (w f : ℕ) → f < 6 → w ≤ length r → w < f * 4 + 4 → of_resource (take w r ∷ []) 0 f ≡ unset
outside r w f l h g =
    let e : length (take w r) ≡ w = length-take-le w r h in
    simp (e, lt-ltb f 6 l, lt-leb (f * 4 + 4) w g)

module _ (er : ℕ) (r : List ℕ) (f : ℕ) where
  -- type, space and the two bounds
  pub resource_early : f < 4 → 16 ≤ length r → Some (u32_at r (f * 4)) ≡ resource_shown er r f
  unfolding resource_shown
  resource_early l h =
      let e = inside r 16 f (omega arith) h (omega arith) in
      simp (lt-ltb f 4 l, leb-zero, e)

  -- kind and flags
  pub resource_late : 4 ≤ f → f < 6 → 16 ≤ length r
      → field_of (set_if (leb 2 er) (set_if (leb 24 (length r)) (number (u32_at r (f * 4))))) ≡ resource_shown er r f
  unfolding resource_shown
  resource_late g l h = rw (le-ltb f 4 g) (go (leb 24 (length r)) (leb-true 24 (length r)))
    where
      go : (t : Bool) → (t ≡ true → 24 ≤ length r)
          → field_of (set_if (leb 2 er) (set_if t (number (u32_at r (f * 4)))))
          ≡ field_of (set_if (leb 2 er) (of_resource (take (choose t 24 16) r ∷ []) 0 f))
      go true p = rw (inside r 24 f l (p refl) (omega arith))
      go false p = rw (outside r 16 f l h (omega arith))
