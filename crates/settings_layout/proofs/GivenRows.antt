-- The verdict on what the writer would write, over the numbers that it is given.
-- Assumes nothing.
use Prim.Native.Nat.{ℕ, ◌+◌, ◌<◌, ◌≤◌, ◌%◌}
use mathlib.Core.Path.{◌≡◌, refl, sym, ◌∙◌, ap}
use mathlib.Core.List.{List, [], ◌∷◌, ◌++◌}
use native.Mathlib.Omega.{arith}
use lib.Dec.{leb}
use lib.ListN.{length}
use borrow.Author.Tests.{le-leb, eqb-true, eq-eqb}
use Rattle.wire.specs.Number.{Bytes}
use Rattle.wire.specs.Verdict.{◌then◌, check, Accepted}
use Rattle.wire.proofs.Verdicts.{then_accepted, check_then, checked, accepted_then}
use Rattle.settings_layout.specs.declared.Row.{Row}
use Rattle.settings_layout.specs.Groups.{value_of, in_groups}
use Rattle.settings_layout.specs.File.{number_judged, row_size, row_end, row_judged, rows_judged, judged, rows_of}
use Rattle.settings_layout.specs.Laid.{row_laid, rows_laid, laid}
use Rattle.settings_layout.specs.Given.{rows_given, numbers_of, written, writer_judged}
use Rattle.settings_layout.specs.Checked.{width, row_width, row_given, all_given, RowFits, Fits}
use Rattle.settings_layout.proofs.Groupings.{first_laid}
use Rattle.settings_layout.proofs.Read.{number_accepted, front, front_small, rows_told, file_told}
use Rattle.settings_layout.proofs.RoundTrips.{row_read, row_fits, reads_back, written_again}

-- ---- numbers that fit are read as they were given
pub front_accepted : (p n : ℕ) (l : List ℕ) → n < 4294967296 → number_judged p (in_groups n ++ l) ≡ Accepted
front_accepted p n l h = number_accepted p _ n _ (first_laid l n h)

record RowLaid (w p : ℕ) (r : Row) (l : List ℕ) : Type 0 where
  judges : row_judged w p (row_laid r l) ≡ row_given w p r
  version : value_of (row_laid r l) ≡ r.version
  size : row_size (row_laid r l) ≡ row_width r
  rest : row_end (row_laid r l) ≡ l

row_laid_lem : (w p : ℕ) (r : Row) (l : List ℕ) → RowFits r → RowLaid w p r l
unfolding row_laid row_judged row_given row_size row_width row_end ◌then◌
row_laid_lem w p r l f =
    let lx = in_groups r.value ++ l in
    let lk = in_groups r.key ++ lx in
    let fv = front r.version lk f.version in
    let fk = front r.key lx f.key in
    let fx = front r.value l f.value in
    let av : (q : ℕ) → number_judged q (in_groups r.version ++ lk) ≡ Accepted = λ q. front_accepted q r.version lk f.version in
    let ak : (q : ℕ) → number_judged q (in_groups r.key ++ lx) ≡ Accepted = λ q. front_accepted q r.key lx f.key in
    let ax : (q : ℕ) → number_judged q (in_groups r.value ++ l) ≡ Accepted = λ q. front_accepted q r.value l f.value in
    record {
      judges = simp (av, ak, ax, fv.value, fv.rest, fv.size, fk.value, fk.rest, fk.size, fx.value);
      version = fv.value;
      size = simp (fv.rest, fv.size, fk.rest, fk.size, fx.size);
      rest = simp (fv.rest, fk.rest, fx.rest);
    }

pub all_judged : (l : List Row) (w p : ℕ) → Fits l → rows_judged (length l) w p (rows_laid l) ≡ all_given w p l
unfolding rows_judged rows_laid all_given check
all_judged [] w p f = refl
all_judged (r ∷ l) w p f =
    let t = row_laid_lem w p r (rows_laid l) f.0 in
    rw (t.judges, t.version, t.size, t.rest, all_judged l r.version (p + row_width r) f.1)

-- the verdict on the result, over what is given
pub judged_given : (l : List Row) → Fits l → length l < 4294967296
    → judged (laid l) ≡ (check (leb (length l) 512) 56 0 then all_given 0 (width (length l)) l)
unfolding judged laid ◌then◌
judged_given l f h =
    let t = front (length l) (rows_laid l) h in
    rw (front_accepted 0 (length l) (rows_laid l) h, t.value, t.size, t.rest, all_judged l 0 (width (length l)) f)

-- ---- an accepted result has numbers that fit
rows_fit : (l : List Row) (w p : ℕ) → rows_judged (length l) w p (rows_laid l) ≡ Accepted → Fits l
unfolding rows_laid
rows_fit [] w p e = tt
rows_fit (r ∷ l) w p e =
    let t = rows_told (length l) w p (row_laid r (rows_laid l)) e in
    let q = row_read w p r (rows_laid l) t.0 in
    (row_fits w p r (rows_laid l) t.0, rows_fit l _ _ (rw q.rest at t.1))

pub record LaidTold (l : List Row) : Type 0 where
  pub fits : Fits l
  pub few : length l ≤ 512
  pub rows : all_given 0 (width (length l)) l ≡ Accepted

pub laid_told : (l : List Row) → judged (laid l) ≡ Accepted → LaidTold l
unfolding laid
laid_told l e =
    let t = file_told (laid l) e in
    let f = front (length l) (rows_laid l) (front_small 0 (length l) (rows_laid l) t.count) in
    let n : length l ≤ 512 = rw f.value at t.few in
    let r : rows_judged (length l) 0 (width (length l)) (rows_laid l) ≡ Accepted = rw (f.value, f.rest, f.size) at t.rows in
    let fit = rows_fit l _ _ r in
    record { fits = fit; few = n; rows = sym (all_judged l 0 (width (length l)) fit) ∙ r }

pub laid_accepted : (l : List Row) → LaidTold l → judged (laid l) ≡ Accepted
laid_accepted l t =
    let h = t.few in
    judged_given l t.fits (omega arith) ∙ accepted_then _ _ (checked _ 56 0 (le-leb _ _ h)) t.rows

-- ---- rows as numbers
pub given_numbers : (l : List Row) → rows_given (numbers_of l) ≡ l
unfolding rows_given numbers_of
given_numbers [] = refl
given_numbers (r ∷ l) = ap (λ (x : List Row). r ∷ x) (given_numbers l)

pub numbers_given : (g : List ℕ) → length g % 3 ≡ 0 → numbers_of (rows_given g) ≡ g
unfolding rows_given numbers_of
numbers_given [] h = refl
numbers_given (v ∷ []) h = absurd (omega arith)
numbers_given (v ∷ k ∷ []) h = absurd (omega arith)
numbers_given (v ∷ k ∷ x ∷ l) h = ap (λ (m : List ℕ). v ∷ k ∷ x ∷ m) (numbers_given l (omega arith))

pub numbers_whole : (l : List Row) → length (numbers_of l) % 3 ≡ 0
unfolding numbers_of
numbers_whole [] = refl
numbers_whole (r ∷ l) = let h = numbers_whole l in omega arith

-- ---- the round trips of the writer
-- "what the writer accepts reads back as given"
pub given_back : (g : List ℕ) (room : ℕ) → writer_judged g room ≡ Accepted → (judged (written g) ≡ Accepted) × (numbers_of (rows_of (written g)) ≡ g)
unfolding writer_judged written
given_back g room e =
    let a = check_then _ 27 0 _ e in
    let b = then_accepted _ _ a.1 in
    (b.0, ap numbers_of (reads_back (rows_given g) b.0) ∙ numbers_given g (eqb-true _ _ a.0))

-- "an accepted file, read and written again, gives the same bytes"
pub file_again : (d : List ℕ) (room : ℕ) → Bytes d → judged d ≡ Accepted → length d ≤ room
    → (writer_judged (numbers_of (rows_of d)) room ≡ Accepted) × (written (numbers_of (rows_of d)) ≡ d)
unfolding writer_judged written
file_again d room y e h =
    let s : laid (rows_given (numbers_of (rows_of d))) ≡ d = ap laid (given_numbers (rows_of d)) ∙ written_again d y e in
    (rw s (accepted_then _ _ (checked _ 27 0 (eq-eqb _ _ (numbers_whole (rows_of d)))) (accepted_then _ _ e (checked _ 28 0 (le-leb _ _ h)))), s)
