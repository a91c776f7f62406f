-- One container more, by its answer.
-- Assumes nothing.
use Rattle.std.specs.Prelude.{Some, None, Ok, Err}
use Prim.Native.Nat.{ℕ, ◌+◌, min, ◌<◌, ◌≤◌}
use mathlib.Core.Path.{◌≡◌, refl, sym}
use mathlib.Core.List.{List, [], ◌∷◌}
use native.Mathlib.Omega.{arith}
use lib.Dec.{eqb}
use lib.ListN.{get_or, set}
use borrow.Author.Tests.{eq-eqb, ne_eqb}
use Rattle.wire.specs.Choice.{choose}
use mathlib.Core.Bool.{Bool, true, false}
use Rattle.std.specs.Bool.{then_some}
use Rattle.psv0_layout.specs.Answers.{field_of}
use Rattle.psv0_layout.specs.Shown.{number, set_if}
use Rattle.wire.specs.declared.Refusal.{Refusal}
use Rattle.figures_layout.specs.declared.Answer.{Answer}
use Rattle.figures_layout.specs.declared.Figures.{Figures}
use Rattle.figures_layout.specs.declared.Told.{Told}
use Rattle.figures_layout.specs.Kinds.{answer_of, is_stage, is_unset, tally, total}
use Rattle.figures_layout.specs.Figures.{most, most_bytes, sum_up_to, plus, table, figures_of, sums, summed}
use Rattle.figures_layout.proofs.Ranges.{edition_in, stage_in}
use Rattle.figures_layout.proofs.Sums.{sum_none, table_same, sums_below, sums_one}
use Rattle.figures_counter.specs.Steps.{InRange, one_refused, one_accepted}

-- the stage that is shown
pub shown_if : (t : Bool) (n : ℕ) → then_some t n ≡ field_of (set_if t (number n))
shown_if true n = refl
shown_if false n = refl

-- ---- one count of a list
module _ (l : List ℕ) (n m : ℕ) where
  hit : ◌≡◌ {A = ℕ} (choose (eqb n n) 1 0) 1
  hit = rw (eq-eqb n n refl)

  miss : (k : ℕ) → (k ≡ n → ⊥) → ◌≡◌ {A = ℕ} (choose (eqb n k) 1 0) 0
  miss k h = rw (ne_eqb n k (λ e. h (sym e)))

  raised : n < m → {x : ℕ} → x ≡ plus (get_or l n 0) 1 → set l n x ≡ sums l (table (λ k. choose (eqb n k) 1 0) m)
  raised h e = rw e (sym (sums_one l (λ k. choose (eqb n k) 1 0) m n h hit miss))

none : (l : List ℕ) (m : ℕ) → l ≡ sums l (table (λ k. 0) m)
none l m = sym (sums_below l (λ k. 0) m (λ k b. refl))

-- ---- the figures after it
pub refused_more : (f : Figures) (n : ℕ) → n < 28 → {o c x : ℕ} → o ≡ plus f.opened 1 → c ≡ plus f.refused 1
    → x ≡ plus (get_or f.refusals n 0) 1
    → record { edition = f.edition; bytes = f.bytes; opened = o; accepted = f.accepted; refused = c; refusals = set f.refusals n x; editions = f.editions; stages = f.stages; unset = f.unset }
    ≡ one_refused f n
unfolding one_refused
refused_more f n h eo ec ex = rw (eo, ec, raised f.refusals n 28 h ex)

module _ (f : Figures) (t : Told) (l : ℕ) (h : InRange t) {y o c x : ℕ} (ey : y ≡ sum_up_to most_bytes f.bytes l) (eo : o ≡ plus f.opened 1)
    (ec : c ≡ plus f.accepted 1) (ex : x ≡ plus (get_or f.editions t.file_edition 0) 1) where
  pub unset_more : t.stage ≡ None → {u : ℕ} → u ≡ plus f.unset 1
      → record { edition = f.edition; bytes = y; opened = o; accepted = c; refused = f.refused; refusals = f.refusals; editions = set f.editions t.file_edition x; stages = f.stages; unset = u }
      ≡ one_accepted f t l
  unfolding one_accepted
  unset_more hs eu = rw (hs, ey, eo, ec, eu, raised f.editions t.file_edition 4 h.edition ex, ← none f.stages 16)

  pub stage_more : {n : ℕ} → t.stage ≡ Some n → {z : ℕ} → z ≡ plus (get_or f.stages n 0) 1
      → record { edition = f.edition; bytes = y; opened = o; accepted = c; refused = f.refused; refusals = f.refusals; editions = set f.editions t.file_edition x; stages = set f.stages n z; unset = f.unset }
      ≡ one_accepted f t l
  unfolding one_accepted
  stage_more {n} hs ez =
      rw (hs, ey, eo, ec, raised f.editions t.file_edition 4 h.edition ex, raised f.stages n 16 (h.stage n hs) ez, sum_none most f.unset)

-- ---- which is one container more
alone : (n : ℕ) → n ≡ n + 0
alone n = omega arith

same_table : (f : ℕ → ℕ) (m : ℕ) → table f m ≡ table (λ k. f k + 0) m
same_table f m = table_same f (λ k. f k + 0) m (λ k. alone (f k))

module _ (f : Figures) (a : Answer) where
  pub refused_one : {r : Refusal} → a.opening ≡ Err r → one_refused f r.number ≡ summed f (figures_of f.edition (a ∷ []))
  unfolding one_refused summed figures_of tally total
  refused_one {r} h = rw h (λ i.
      record {
        edition = f.edition;
        bytes = sym (sum_none most_bytes f.bytes) i;
        opened = plus f.opened 1;
        accepted = sym (sum_none most f.accepted) i;
        refused = plus f.refused 1;
        refusals = sums f.refusals (same_table (λ m. choose (eqb r.number m) 1 0) 28 i);
        editions = none f.editions 4 i;
        stages = none f.stages 16 i;
        unset = sym (sum_none most f.unset) i;
      })

  pub accepted_one : {t : Told} → a.opening ≡ Ok t → a.len ≤ 18446744073709551615 → one_accepted f t a.len ≡ summed f (figures_of f.edition (a ∷ []))
  unfolding one_accepted summed figures_of tally total
  accepted_one {t} h l =
      let b : a.len ≡ min (a.len + 0) most_bytes = omega arith in
      rw h (λ i.
      record {
        edition = f.edition;
        bytes = sum_up_to most_bytes f.bytes (b i);
        opened = plus f.opened 1;
        accepted = plus f.accepted 1;
        refused = sym (sum_none most f.refused) i;
        refusals = none f.refusals 28 i;
        editions = sums f.editions (same_table (λ m. choose (eqb t.file_edition m) 1 0) 4 i);
        stages = sums f.stages (same_table (λ n. choose (is_stage n t.stage) 1 0) 16 i);
        unset = plus f.unset (alone (choose (is_unset t.stage) 1 0) i);
      })

-- ---- all that an opening tells has its places
pub in_range_lem : (k : ℕ) (b : List ℕ) {t : Told} → (answer_of k b).opening ≡ Ok t → InRange t
in_range_lem k b e =
    record {
      edition = let l = edition_in k b e in omega arith;
      stage = λ n h. let l = stage_in k b e h in omega arith;
    }
