-- A listing: of an accepted file, going on from the first row by rows by themselves gives its rows, and comes to its end.
-- Assumes nothing.
use Prim.Native.Nat.{ℕ, zero, suc, ◌+◌, ◌-◌, ◌≤◌}
use mathlib.Core.Path.{◌≡◌, sym, ◌∙◌, ap}
use mathlib.Core.List.{List, [], ◌∷◌}
use native.Mathlib.Omega.{arith}
use lib.ListN.{length, drop, length-drop}
use lib.Seq.{drop-drop}
use Rattle.wire.proofs.Verdicts.{then_accepted}
use Rattle.std.specs.Prelude.{Ok}
use Rattle.wire.specs.Verdict.{under, Accepted}
use Rattle.settings_layout.proofs.Read.{row_told, row_end_lem, row_inside, end_told, file_told, number_inside}
use Rattle.settings_layout.specs.File.{row_of, row_size, row_end, rows_judged, rows_from, judged, rows_of}
use Rattle.settings_layout.specs.Groups.{value_of, size_of, after}
use Rattle.settings_layout.specs.Shown.{settings_shown, settings_of, row_alone_of}
use Rattle.settings_layout.specs.declared.Row.{Row}
use Rattle.settings_layout.specs.declared.Settings.{Settings}

-- from the byte p on, after a row of version w, the rows by themselves are these, each accepted, and the last ends with the file
abbrev pub Lists : List ℕ → ℕ → ℕ → List Row → Type 0
Lists d p w [] = p ≡ length d
Lists d p w (r ∷ l) =
    (e : ℕ) × (row_alone_of d p w ≡ Ok (record { row = r; end = e })) × Lists d e r.version l

rows_listed : (d : List ℕ) (n w p : ℕ) → p ≤ length d → rows_judged n w p (drop p d) ≡ Accepted → Lists d p w (rows_from n (drop p d))
unfolding rows_from rows_judged row_alone_of under row_of
rows_listed d zero w p h e =
    let q : length d - p ≡ 0 = sym (length-drop p d) ∙ ap length (end_told w p (drop p d) e) in
    omega arith
rows_listed d (suc n) w p h e =
    let t = then_accepted _ _ e in
    let i = row_inside w p (drop p d) (row_told w p (drop p d) t.0) in
    let m = length-drop p d in
    let ends : row_end (drop p d) ≡ drop (p + row_size (drop p d)) d = row_end_lem (drop p d) ∙ drop-drop _ p d in
    (p + row_size (drop p d), rw t.0, rw ends (rows_listed d n _ (p + row_size (drop p d)) (omega arith) (rw ends at t.1)))

pub listed : (d : List ℕ) → judged d ≡ Accepted → (s : Settings) × (settings_of d ≡ Ok s) × Lists d s.first 0 (rows_of d)
unfolding settings_of under rows_of after
listed d e =
    let t = file_told d e in
    let i = number_inside 0 d t.count in
    (settings_shown d, rw e, rows_listed d (value_of d) 0 (size_of d) i.1 t.rows)
