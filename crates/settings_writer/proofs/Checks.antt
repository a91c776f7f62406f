-- The writer's checks at the numbers that the code holds.
-- Assumes nothing.
use Prim.Native.Nat.{ℕ, zero, suc, ◌+◌, ◌*◌, ◌/◌, ◌%◌, ◌<◌, ◌≤◌}
use mathlib.Core.Path.{◌≡◌, refl, ap, ◌∙◌}
use mathlib.Core.Bool.{true, false}
use mathlib.Core.List.{List, [], ◌∷◌}
use native.Mathlib.Numerals.{add-one}
use native.Mathlib.Omega.{arith}
use lib.Dec.{leb}
use lib.ListN.{length, get_or, drop, drop_of_length-le}
use lib.Seq.{drop-cons}
use borrow.Author.Tests.{lt-ltb, le-ltb, le-leb, lt-leb, eq-eqb, ne_eqb}
use Rattle.wire.specs.Verdict.{◌then◌, check, under, Verdict, Accepted, Refused}
use Rattle.wire.specs.declared.Refusal.{Refusal}
use Rattle.settings_layout.specs.declared.Row.{Row}
use Rattle.settings_layout.specs.Groups.{groups, in_groups}
use Rattle.settings_layout.specs.Rules.{key_known, in_range}
use Rattle.settings_layout.specs.File.{judged}
use Rattle.settings_layout.specs.Laid.{rows_laid}
use Rattle.settings_layout.specs.Given.{rows_given, written, writer_judged}
use Rattle.settings_layout.specs.Checked.{width, row_width, row_given, all_given}
use Rattle.settings_layout.proofs.GivenNumbers.{width_small, rows_count, given_fit, judged_large, laid_length, row_length}
use Rattle.settings_layout.proofs.GivenRows.{judged_given}
use Rattle.settings_writer.specs.Rows.{row_in, rows_in}
use Rattle.std.specs.Simd.{first_chunks}
use Rattle.std.specs.Prelude.{Result}

-- ---- how wide a number is
module _ (n : ℕ) where
  pub width_1 : n < 128 → 1 ≡ width n
  unfolding in_groups groups
  width_1 h = rw (lt-ltb n 128 h)

  module _ (a : 128 ≤ n) where
    pub width_2 : n < 16384 → 2 ≡ width n
    unfolding in_groups groups
    width_2 h = rw (le-ltb n 128 a, lt-ltb (n / 128) 128 (omega arith))

    module _ (b : 16384 ≤ n) where
      pub width_3 : n < 2097152 → 3 ≡ width n
      unfolding in_groups groups
      width_3 h = rw (le-ltb n 128 a, le-ltb (n / 128) 128 (omega arith), lt-ltb (n / 128 / 128) 128 (omega arith))

      module _ (c : 2097152 ≤ n) where
        pub width_4 : n < 268435456 → 4 ≡ width n
        unfolding in_groups groups
        width_4 h =
            rw (le-ltb n 128 a, le-ltb (n / 128) 128 (omega arith), le-ltb (n / 128 / 128) 128 (omega arith), lt-ltb (n / 128 / 128 / 128) 128 (omega arith))

        pub width_5 : 268435456 ≤ n → 5 ≡ width n
        unfolding in_groups groups
        width_5 h =
            rw (le-ltb n 128 a, le-ltb (n / 128) 128 (omega arith), le-ltb (n / 128 / 128) 128 (omega arith), le-ltb (n / 128 / 128 / 128) 128 (omega arith))

-- ---- a row that begins at p, after one of version w
module _ (w p : ℕ) (r : Row) where
  pub given_falls : r.version < w → Refused 59 p ≡ row_given w p r
  unfolding row_given check ◌then◌
  given_falls h = simp (lt-leb w r.version h)

  module _ (h : w ≤ r.version) {a : ℕ} (q : a ≡ width r.version) where
    pub given_unknown : key_known r.key ≡ false → Refused 57 (p + a) ≡ row_given w p r
    unfolding row_given check ◌then◌
    given_unknown g = simp (le-leb w r.version h, g, q)

    module _ (g : key_known r.key ≡ true) {b : ℕ} (e : b ≡ width r.key) where
      pub given_out : in_range r.key r.value ≡ false → Refused 58 (p + a + b) ≡ row_given w p r
      unfolding row_given check ◌then◌
      given_out f = simp (le-leb w r.version h, g, q, e, f)

      pub given_right : in_range r.key r.value ≡ true → Accepted ≡ row_given w p r
      unfolding row_given check ◌then◌
      given_right f = simp (le-leb w r.version h, g, f)

      pub given_end : {c : ℕ} → c ≡ width r.value → p + a + b + c ≡ p + row_width r
      unfolding row_width
      given_end {c} s = rw (q, e, s) (omega arith)

-- ---- the loop over the rows
row_wide : (r : Row) → row_width r ≡ width r.version + width r.key + width r.value
unfolding row_width
row_wide r = refl

pub record Judging (g : List (List ℕ)) (from at last i : ℕ) : Type 0 where
  pub inside : i ≤ length g
  pub low : at ≤ 5 + 15 * i
  pub verdict : all_given 0 from (rows_in g) ≡ all_given last at (rows_in (drop i g))
  pub place : at + length (rows_laid (rows_in (drop i g))) ≡ from + length (rows_laid (rows_in g))

pub judging_begin : (g : List (List ℕ)) (from : ℕ) → from ≤ 5 → Judging g from from 0 0
judging_begin g from h = record { inside = omega arith; low = omega arith; verdict = refl; place = refl }

module _ {g : List (List ℕ)} {from at last i : ℕ} (j : Judging g from at last i) where
  module _ (h : i < length g) where
    abbrev t : List ℕ
    t = get_or g i []

    front : rows_in (drop i g) ≡ row_in t ∷ rows_in (drop (i + 1) g)
    unfolding rows_in
    front = rw (drop-cons g i [] h, add-one i)

    parted : all_given 0 from (rows_in g) ≡ (row_given last at (row_in t) then all_given (row_in t).version (at + row_width (row_in t)) (rows_in (drop (i + 1) g)))
    unfolding all_given
    parted = j.verdict ∙ rw front

    pub judging_stop : (v : Verdict) (n o : ℕ) → row_given last at (row_in t) ≡ Refused n o → (all_given 0 from (rows_in g) then v) ≡ Refused n o
    unfolding ◌then◌
    judging_stop v n o q = rw (parted, q)

    pub judging_more : row_given last at (row_in t) ≡ Accepted → {m : ℕ} → m ≡ at + row_width (row_in t) → Judging g from m (row_in t).version (i + 1)
    unfolding ◌then◌ rows_laid
    judging_more a {m} q =
        let wv = width_small (row_in t).version in
        let wk = width_small (row_in t).key in
        let wx = width_small (row_in t).value in
        let jl = j.low in
        let rl : length (rows_laid (rows_in (drop i g))) ≡ row_width (row_in t) + length (rows_laid (rows_in (drop (i + 1) g)))
        = rw front (row_length (row_in t) _) in
        let rwid = row_wide (row_in t) in
        record {
          inside = omega arith;
          low = omega arith;
          verdict = parted ∙ rw (a, q);
          place = omega (arith, j.place);
        }

  module _ (h : length g ≤ i) (room : ℕ) where
    ended : (all_given last at (rows_in (drop i g)) ≡ Accepted) × (at ≡ from + length (rows_laid (rows_in g)))
    unfolding all_given rows_in rows_laid
    ended =
        let d : drop i g ≡ [] = drop_of_length-le g {i = i} h in
        (rw d, omega (arith, rw d at j.place))

    pub judging_full : room < at → Refused 28 0 ≡ (all_given 0 from (rows_in g) then check (leb (from + length (rows_laid (rows_in g))) room) 28 0)
    unfolding ◌then◌ check
    judging_full f = rw (j.verdict, ended.0, ← ended.1, lt-leb at room f)

    pub judging_done : at ≤ room → Accepted ≡ (all_given 0 from (rows_in g) then check (leb (from + length (rows_laid (rows_in g))) room) 28 0)
    unfolding ◌then◌ check
    judging_done f = rw (j.verdict, ended.0, ← ended.1, le-leb at room f)

    pub judging_end : at ≡ from + length (rows_laid (rows_in g))
    judging_end = ended.1

-- ---- numbers in threes are the rows that they give
threes : (n : ℕ) (g : List ℕ) → length g / 3 ≡ n → rows_in (first_chunks 3 n g) ≡ rows_given g
unfolding rows_in rows_given
threes zero [] h = refl
threes zero (v ∷ []) h = refl
threes zero (v ∷ k ∷ []) h = refl
threes zero (v ∷ k ∷ x ∷ l) h = absurd (omega arith)
threes (suc n) [] h = absurd (omega arith)
threes (suc n) (v ∷ []) h = absurd (omega arith)
threes (suc n) (v ∷ k ∷ []) h = absurd (omega arith)
threes (suc n) (v ∷ k ∷ x ∷ l) h = ap (λ (m : List Row). row_in (v ∷ k ∷ x ∷ []) ∷ m) (threes n l (omega arith))

-- ---- all checks
module _ (g : List ℕ) (room : ℕ) where
  pub not_whole : (length g % 3 ≡ 0 → ⊥) → Refused 27 0 ≡ writer_judged g room
  unfolding writer_judged check ◌then◌
  not_whole h = rw (ne_eqb (length g % 3) 0 h)

  module _ (w : length g % 3 ≡ 0) where
    pub large_count : 4294967295 < length g / 3 → Refused 54 0 ≡ writer_judged g room
    unfolding writer_judged written check ◌then◌
    large_count h = rw (eq-eqb (length g % 3) 0 w, judged_large (rows_given g) (omega (arith, rows_count g)))

    module _ (b : (i : ℕ) → get_or g i 0 < 4294967296) where
      judges : length g / 3 ≤ 4294967295
          → judged (written g) ≡ (check (leb (length g / 3) 512) 56 0 then all_given 0 (width (length g / 3)) (rows_given g))
      unfolding written
      judges h = judged_given (rows_given g) (given_fit g b) (omega (arith, rows_count g)) ∙ rw (rows_count g)

      pub many_given : length g / 3 ≤ 4294967295 → 512 < length g / 3 → Refused 56 0 ≡ writer_judged g room
      unfolding writer_judged check ◌then◌
      many_given h f = rw (eq-eqb (length g % 3) 0 w, judges h, lt-leb (length g / 3) 512 f)

      total : length (written g) ≡ width (length g / 3) + length (rows_laid (rows_given g))
      unfolding written
      total = laid_length (rows_given g) ∙ rw (rows_count g)

      pub few_given : length g / 3 ≤ 512 → {from : ℕ} → from ≡ width (length g / 3) → {l : List (List ℕ)} → l ≡ first_chunks 3 (length g / 3) g → {r : Result ℕ Refusal}
          → r ≡ under (all_given 0 from (rows_in l) then check (leb (from + length (rows_laid (rows_in l))) room) 28 0) (from + length (rows_laid (rows_in l)))
          → r ≡ under (writer_judged g room) (length (written g))
      unfolding writer_judged check ◌then◌
      few_given f {from} q {l} c {r} e =
          let s : rows_in l ≡ rows_given g = ap rows_in c ∙ threes _ g refl in
          e ∙ rw (q, s, total, eq-eqb (length g % 3) 0 w, judges (omega arith), le-leb (length g / 3) 512 f)
