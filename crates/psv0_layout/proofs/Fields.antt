-- Laws of values that are set or unset.
-- Assumes nothing.
use Rattle.std.specs.Prelude.{None}
use mathlib.Core.Path.{◌≡◌, refl}
use mathlib.Core.Bool.{Bool, true, false}
use Prim.Native.Nat.{ℕ, ◌≤◌}
use lib.Dec.{leb}
use borrow.Author.Tests.{le-leb}
use Rattle.psv0_layout.specs.Shown.{Value, set_if}
use Rattle.psv0_layout.specs.Answers.{field_of}

-- a value that the stage or the record does not have is unset in every edition
pub unset_within : (t h : Bool) (x : Value) → h ≡ false → None ≡ field_of (set_if t (set_if h x))
unset_within true h x e = rw e
unset_within false h x e = refl

-- a value that needs edition e, in a reading at edition read er
module _ (e er : ℕ) (x : Value) where
  pub set_from : e ≤ er → x ≡ set_if (leb e er) x
  set_from h = simp (le-leb e er h)
