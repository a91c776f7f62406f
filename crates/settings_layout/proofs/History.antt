-- "Adding a last row with a version above all others, where the result is accepted, changes no answer for a version below it."
-- Assumes nothing.
use Prim.Native.Nat.{ℕ, ◌+◌, ◌<◌, ◌≤◌}
use mathlib.Core.Path.{◌≡◌, refl, sym, ◌∙◌, ap}
use mathlib.Core.Bool.{Bool, true, false, ◌&&◌}
use mathlib.Core.List.{List, [], ◌∷◌, ◌++◌}
use native.Mathlib.Omega.{arith}
use lib.Dec.{eqb}
use lib.ListN.{length, length-append}
use borrow.Author.Tests.{lt-leb}
use Rattle.wire.specs.Number.{Bytes}
use Rattle.wire.specs.Verdict.{Accepted}
use Rattle.wire.proofs.Verdicts.{then_accepted, check_then, check_accepted, checked, accepted_then}
use Rattle.settings_layout.specs.declared.Row.{Row}
use Rattle.settings_layout.specs.Rules.{tells, setting_at}
use Rattle.settings_layout.specs.File.{judged, rows_of}
use Rattle.settings_layout.specs.Shown.{setting_answer_of}
use Rattle.settings_layout.specs.Laid.{laid}
use Rattle.settings_layout.specs.Checked.{row_given, all_given, Fits}
use Rattle.settings_layout.proofs.RoundTrips.{reads_back, written_again}
use Rattle.settings_layout.proofs.Values.{last_silent}
use Rattle.settings_layout.proofs.GivenRows.{laid_told, laid_accepted}

not_told : (k v : ℕ) (r : Row) → v < r.version → tells k v r ≡ false
unfolding tells
not_told k v r h = rw (lt-leb r.version v h) (go (eqb r.key k))
  where
    go : (t : Bool) → (t && false) ≡ false
    go true = refl
    go false = refl

-- a last row of a later version
pub setting_kept : (k v : ℕ) (l : List Row) (r : Row) → v < r.version → setting_at k v (l ++ (r ∷ [])) ≡ setting_at k v l
setting_kept k v l r h = last_silent k v l r (not_told k v r h)

-- two files, the second with one row more
pub file_history : (d e : List ℕ) (r : Row) → judged d ≡ Accepted → judged e ≡ Accepted → rows_of e ≡ rows_of d ++ (r ∷ [])
    → (k v : ℕ) → v < r.version → setting_answer_of e k v ≡ setting_answer_of d k v
unfolding setting_answer_of
file_history d e r a b q k v h = rw (a, b, q, setting_kept k v (rows_of d) r h)

-- ---- the file without its last row is accepted too
row_anywhere : (w p q : ℕ) (r : Row) → row_given w p r ≡ Accepted → row_given w q r ≡ Accepted
unfolding row_given
row_anywhere w p q r e =
    let a = check_then _ 59 p _ e in
    let b = check_then _ 57 _ _ a.1 in
    accepted_then _ _ (checked _ 59 q a.0) (accepted_then _ _ (checked _ 57 _ b.0) (checked _ 58 _ (check_accepted _ 58 _ b.1)))

fewer : (l : List Row) (r : Row) (w p q : ℕ) → all_given w p (l ++ (r ∷ [])) ≡ Accepted → all_given w q l ≡ Accepted
unfolding all_given
fewer [] r w p q e = refl
fewer (x ∷ l) r w p q e =
    let a = then_accepted _ _ e in
    accepted_then _ _ (row_anywhere w p q x a.0) (fewer l r _ _ _ a.1)

fit_fewer : (l : List Row) (r : Row) → Fits (l ++ (r ∷ [])) → Fits l
fit_fewer [] r f = tt
fit_fewer (x ∷ l) r f = (f.0, fit_fewer l r f.1)

pub before_accepted : (l : List Row) (r : Row) → judged (laid (l ++ (r ∷ []))) ≡ Accepted → judged (laid l) ≡ Accepted
before_accepted l r e =
    let t = laid_told (l ++ (r ∷ [])) e in
    let n : length l + 1 ≤ 512 = rw length-append at t.few in
    laid_accepted l (record { fits = fit_fewer l r t.fits; few = omega arith; rows = fewer l r _ _ _ t.rows })

-- the request's sentence: e is an accepted file that ends with the row r, and laid l is the file without it. It is accepted too, and every question
-- for a version below r's, whatever its key, has the same answer, verdict and value. That r's version is above all others isn't needed
pub history : (e : List ℕ) (l : List Row) (r : Row) → Bytes e → judged e ≡ Accepted → rows_of e ≡ l ++ (r ∷ [])
    → (judged (laid l) ≡ Accepted) × ((k v : ℕ) → v < r.version → setting_answer_of e k v ≡ setting_answer_of (laid l) k v)
history e l r y a q =
    let again : laid (l ++ (r ∷ [])) ≡ e = ap laid (sym q) ∙ written_again e y a in
    let b = before_accepted l r (rw again a) in
    (b, λ k v h. file_history (laid l) e r b a (q ∙ ap (λ (x : List Row). x ++ (r ∷ [])) (sym (reads_back l b))) k v h)
