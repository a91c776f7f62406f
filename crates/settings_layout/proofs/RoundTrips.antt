-- Demand 2, settings: what the writer accepts reads back as it was given; an accepted file, read and written again, gives the same bytes.
-- Assumes nothing.
use Prim.Native.Nat.{ℕ, zero, suc}
use mathlib.Core.Path.{◌≡◌, refl, sym, ◌∙◌, ap}
use mathlib.Core.List.{List, [], ◌∷◌, ◌++◌}
use lib.ListN.{length, take, drop}
use lib.Seq.{take_at}
use Rattle.wire.specs.Number.{Bytes}
use Rattle.wire.specs.Verdict.{Accepted}
use Rattle.settings_layout.specs.declared.Row.{Row}
use Rattle.settings_layout.specs.Groups.{good, number, value_of, after, groups, in_groups}
use Rattle.settings_layout.proofs.Groupings.{good_same, first_laid, first_told}
use Rattle.settings_layout.specs.File.{number_judged, row_of, row_end, rows_judged, rows_from, judged, rows_of}
use Rattle.settings_layout.specs.Laid.{row_laid, rows_laid, laid}
use Rattle.settings_layout.specs.Checked.{RowFits}
use Rattle.settings_layout.proofs.Read.{front, front_small, again, bytes_after, RowTold, rows_told, end_told, file_told}

-- ---- a row that is laid out, read
pub record RowRead (r : Row) (l : List ℕ) : Type 0 where
  pub same : row_of (row_laid r l) ≡ r
  pub rest : row_end (row_laid r l) ≡ l

pub row_read : (w p : ℕ) (r : Row) (l : List ℕ) → RowTold w p (row_laid r l) → RowRead r l
unfolding row_laid row_of row_end
row_read w p r l t =
    let lx = in_groups r.value ++ l in
    let lk = in_groups r.key ++ lx in
    let fv = front r.version lk (front_small p r.version lk t.version) in
    let k : number_judged _ (in_groups r.key ++ lx) ≡ Accepted = rw fv.rest at t.key in
    let fk = front r.key lx (front_small _ r.key lx k) in
    let x : number_judged _ (in_groups r.value ++ l) ≡ Accepted = rw (fv.rest, fk.rest) at t.value in
    let fx = front r.value l (front_small _ r.value l x) in
    record {
      same = simp (fv.value, fv.rest, fk.value, fk.rest, fx.value);
      rest = simp (fv.rest, fk.rest, fx.rest);
    }

pub row_fits : (w p : ℕ) (r : Row) (l : List ℕ) → RowTold w p (row_laid r l) → RowFits r
unfolding row_laid
row_fits w p r l t =
    let lx = in_groups r.value ++ l in
    let lk = in_groups r.key ++ lx in
    let v = front_small p r.version lk t.version in
    let fv = front r.version lk v in
    let k : number_judged _ (in_groups r.key ++ lx) ≡ Accepted = rw fv.rest at t.key in
    let fk = front r.key lx (front_small _ r.key lx k) in
    let x : number_judged _ (in_groups r.value ++ l) ≡ Accepted = rw (fv.rest, fk.rest) at t.value in
    record { version = v; key = front_small _ r.key lx k; value = front_small _ r.value l x }

rows_read : (l : List Row) (w p : ℕ) → rows_judged (length l) w p (rows_laid l) ≡ Accepted → rows_from (length l) (rows_laid l) ≡ l
unfolding rows_from rows_laid
rows_read [] w p e = refl
rows_read (r ∷ l) w p e =
    let t = rows_told (length l) w p (row_laid r (rows_laid l)) e in
    let q = row_read w p r (rows_laid l) t.0 in
    rw (q.same, q.rest) (ap (λ (x : List Row). r ∷ x) (rows_read l _ _ (rw q.rest at t.1)))

-- "What the writer accepts reads back as it was given"
pub reads_back : (l : List Row) → judged (laid l) ≡ Accepted → rows_of (laid l) ≡ l
unfolding rows_of laid
reads_back l e =
    let t = file_told (laid l) e in
    let f = front (length l) (rows_laid l) (front_small 0 (length l) (rows_laid l) t.count) in
    rw (f.value, f.rest) (rows_read l _ _ (rw (f.value, f.rest) at t.rows))

-- ---- what was read, laid out
row_again : (w p : ℕ) (l : List ℕ) → Bytes l → RowTold w p l → row_laid (row_of l) (row_end l) ≡ l
unfolding row_laid row_of row_end
row_again w p l y t =
    rw (again _ (after (after l)) (bytes_after _ (bytes_after l y)) t.value, again _ (after l) (bytes_after l y) t.key) (again p l y t.version)

bytes_end : (l : List ℕ) → Bytes l → Bytes (row_end l)
unfolding row_end
bytes_end l y = bytes_after _ (bytes_after _ (bytes_after l y))

rows_again : (n w p : ℕ) (l : List ℕ) → Bytes l → rows_judged n w p l ≡ Accepted → rows_laid (rows_from n l) ≡ l
unfolding rows_laid rows_from
rows_again zero w p l y e = sym (end_told w p l e)
rows_again (suc n) w p l y e =
    let t = rows_told n w p l e in
    rw (rows_again n _ _ (row_end l) (bytes_end l y) t.1) (row_again w p l y t.0)

pub row_count : (n : ℕ) (l : List ℕ) → length (rows_from n l) ≡ n
unfolding rows_from
row_count zero l = refl
row_count (suc n) l = ap suc (row_count n (row_end l))

-- "an accepted file, read and written again, gives the same bytes"
pub written_again : (d : List ℕ) → Bytes d → judged d ≡ Accepted → laid (rows_of d) ≡ d
unfolding laid rows_of
written_again d y e =
    let t = file_told d e in
    rw (row_count (value_of d) (after d), rows_again (value_of d) _ _ (after d) (bytes_after d y) t.rows) (again 0 d y t.count)

-- so a number has one form: two files with the same rows are equal
pub one_form : (d e : List ℕ) → Bytes d → Bytes e → judged d ≡ Accepted → judged e ≡ Accepted → rows_of d ≡ rows_of e → d ≡ e
one_form d e y z a b q = sym (written_again d y a) ∙ ap laid q ∙ written_again e z b

-- ---- the same of a number by itself: what is read of it is its shortest form, so it has one form
pub number_form : (l : List ℕ) (v s : ℕ) → Bytes l → number l ≡ good v s → take s l ≡ in_groups v
unfolding in_groups
number_form l v s y e =
    let t = first_told l v s y e in
    let r : number l ≡ good v (length (in_groups v)) = ap number (sym t.form) ∙ first_laid (drop s l) v t.small in
    let q : s ≡ length (groups 4 v) = (good_same (sym e ∙ r)).1 in
    ap (take s) (sym t.form) ∙ take_at (groups 4 v) (drop s l) s (sym q)

pub one_number : (l m : List ℕ) (v s t : ℕ) → Bytes l → Bytes m → number l ≡ good v s → number m ≡ good v t → take s l ≡ take t m
one_number l m v s t y z e f = number_form l v s y e ∙ sym (number_form m v t z f)
