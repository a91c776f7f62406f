-- The value of a key at a version: "that of the last row with the key and a version of at most v, else unset".
-- Assumes nothing.
use Rattle.std.specs.Prelude.{None, Ok, Option, Some}
use Prim.Native.Nat.{ℕ, zero, suc}
use mathlib.Core.Path.{◌≡◌, refl, sym, ◌∙◌, ap}
use mathlib.Core.Bool.{Bool, true, false, ◌&&◌, true≢false}
use mathlib.Core.List.{List, [], ◌∷◌, ◌++◌}
use lib.Dec.{eqb}
use borrow.Author.Tests.{eqb-true}
use Rattle.wire.specs.Choice.{choose}
use Rattle.wire.specs.Verdict.{under, Accepted}
use Rattle.settings_layout.proofs.Read.{rows_told, file_told}
use Rattle.settings_layout.specs.File.{row_of, row_end, rows_judged, rows_from, judged, rows_of}
use Rattle.settings_layout.specs.Groups.{value_of, after}
use Rattle.settings_layout.specs.Rules.{key_known, tells, latest, setting_at}
use Rattle.settings_layout.specs.Shown.{setting_answer_of}
use Rattle.settings_layout.specs.declared.Row.{Row}

-- no row of the list has the key and a version of at most v
abbrev pub NoneTells : ℕ → ℕ → List Row → Type 0
NoneTells k v [] = Unit {0}
NoneTells k v (r ∷ l) = (tells k v r ≡ false) × NoneTells k v l

skipped : (k v : ℕ) (s : Option ℕ) (l : List Row) → NoneTells k v l → latest k v s l ≡ s
unfolding latest
skipped k v s [] h = refl
skipped k v s (r ∷ l) h = rw h.0 (skipped k v s l h.1)

-- rows before and after
joined : (k v : ℕ) (s : Option ℕ) (a b : List Row) → latest k v s (a ++ b) ≡ latest k v (latest k v s a) b
unfolding latest
joined k v s [] b = refl
joined k v s (r ∷ a) b = joined k v (choose (tells k v r) (Some r.value) s) a b

pub told_by_last : (k v : ℕ) (a : List Row) (r : Row) (b : List Row) → tells k v r ≡ true → NoneTells k v b → setting_at k v (a ++ (r ∷ b)) ≡ Some r.value
unfolding setting_at latest
told_by_last k v a r b h n = joined k v None a (r ∷ b) ∙ rw h (skipped k v (Some r.value) b n)

pub else_unset : (k v : ℕ) (l : List Row) → NoneTells k v l → setting_at k v l ≡ None
unfolding setting_at
else_unset k v l h = skipped k v None l h

-- a last row that doesn't tell changes nothing
pub last_silent : (k v : ℕ) (l : List Row) (r : Row) → tells k v r ≡ false → setting_at k v (l ++ (r ∷ [])) ≡ setting_at k v l
unfolding setting_at
last_silent k v l r h = joined k v None l (r ∷ []) ∙ skipped k v _ (r ∷ []) (h, tt)

-- ---- "a key other than 1 to 3 is unset", at every version of an accepted file
other : (k v : ℕ) (l : List ℕ) → key_known k ≡ false → key_known (value_of (after l)) ≡ true → tells k v (row_of l) ≡ false
unfolding tells row_of
other k v l h g = go (eqb (value_of (after l)) k) _ refl
  where
    go : (t u : Bool) → eqb (value_of (after l)) k ≡ t → (t && u) ≡ false
    go false u e = refl
    go true u e = absurd (true≢false (sym g ∙ ap key_known (eqb-true _ _ e) ∙ h))

none_tells : (k v n w p : ℕ) (l : List ℕ) → key_known k ≡ false → rows_judged n w p l ≡ Accepted → NoneTells k v (rows_from n l)
unfolding rows_from
none_tells k v zero w p l h e = tt
none_tells k v (suc n) w p l h e =
    let t = rows_told n w p l e in
    (other k v l h t.0.known, none_tells k v n _ _ (row_end l) h t.1)

pub other_unset : (d : List ℕ) (k v : ℕ) → judged d ≡ Accepted → key_known k ≡ false → setting_answer_of d k v ≡ Ok None
unfolding setting_answer_of under rows_of
other_unset d k v a h = rw (a, else_unset k v _ (none_tells k v (value_of d) 0 _ (after d) h (file_told d a).rows))
