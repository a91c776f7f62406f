-- No opening is missed: the counts by refusal number sum to the refused, those by edition to the accepted, and so do those by stage or unset.
-- Assumes nothing.
use Rattle.std.specs.Prelude.{Option, Some, None, Result, Ok, Err}
use Prim.Native.Nat.{ℕ, zero, suc, ◌+◌, ◌<◌, ◌≤◌}
use mathlib.Core.Path.{◌≡◌, refl, sym, ◌∙◌}
use mathlib.Core.Bool.{Bool, true, false}
use mathlib.Core.List.{List, [], ◌∷◌}
use mathlib.Core.Logic.{⊎_elim}
use native.Mathlib.Nat.{le_of_suc-le-suc, eq-or-lt_of_le}
use native.Mathlib.Omega.{arith}
use lib.Dec.{eqb}
use lib.ListN.{length, get_or}
use borrow.Author.Tests.{eq-eqb, ne_eqb}
use Rattle.wire.specs.Choice.{choose}
use Rattle.wire.specs.Sum.{sum_below, count_below}
use Rattle.wire.specs.declared.Refusal.{Refusal}
use Rattle.wire.proofs.Sums.{sum_agree, count_hit, count_miss, count_none}
use Rattle.figures_layout.specs.declared.Answer.{Answer}
use Rattle.figures_layout.specs.declared.Told.{Told}
use Rattle.figures_layout.specs.Kinds.{answer_of, history, when_told, refuses, refuses_with, is_stage, is_unset, is_accepted, is_refused, refused_with, of_edition, of_stage, of_no_stage, tally}
use Rattle.figures_layout.specs.Figures.{counted}
use Rattle.figures_layout.proofs.Counts.{counts}
use Rattle.figures_layout.proofs.Ranges.{above_3, number_in, edition_in, stage_in}

-- ---- sums
sum_zero : (n : ℕ) → sum_below (λ i. 0) n ≡ 0
unfolding sum_below
sum_zero zero = refl
sum_zero (suc n) = let r = sum_zero n in omega arith

sum_add : (f g : ℕ → ℕ) (n : ℕ) → sum_below (λ i. f i + g i) n ≡ sum_below f n + sum_below g n
unfolding sum_below
sum_add f g zero = refl
sum_add f g (suc n) = let r = sum_add f g n in omega arith

-- one number below n is m
count_one : (m n : ℕ) → m < n → count_below (eqb m) n ≡ 1
count_one m zero h = absurd (omega arith)
count_one m (suc n) h =
    ⊎_elim
    (λ e.
    let q : m ≡ n = omega arith in
    let z = count_none (eqb m) n (λ i l. ne_eqb m i (λ x. omega arith)) in
    let s = count_hit (eqb m) n (eq-eqb m n q) in
    omega arith)
    (λ l.
    let r = count_one m n (le_of_suc-le-suc l) in
    let s = count_miss (eqb m) n (ne_eqb m n (λ x. omega arith)) in
    omega arith)
    (eq-or-lt_of_le h)

abbrev has_stage : Option ℕ → Bool
has_stage (Some n) = true
has_stage None = false

-- ---- where each opening has one of the kinds p 0, p 1, .. below n or is not of the kind q, the tallies sum to that of q
sum_tallies : (k : ℕ) (p : ℕ → Answer → Bool) (q : Answer → Bool) (n : ℕ)
    → ((b : List ℕ) → count_below (λ i. p i (answer_of k b)) n ≡ choose (q (answer_of k b)) 1 0)
    → (l : List (List ℕ)) → sum_below (λ i. tally (p i) (history k l)) n ≡ tally q (history k l)
unfolding tally history count_below
sum_tallies k p q n h [] = sum_zero n
sum_tallies k p q n h (b ∷ l) =
    let r = sum_tallies k p q n h l in
    let s = h b in
    let a = sum_add (λ i. choose (p i (answer_of k b)) 1 0) (λ i. tally (p i) (history k l)) n in
    omega arith

-- ---- one opening
module _ (k : ℕ) (b : List ℕ) where
  in_refusals : count_below (λ n. refused_with n (answer_of k b)) 28 ≡ choose (is_refused (answer_of k b)) 1 0
  in_refusals = go (answer_of k b).opening refl
    where
      go : (o : Result Told Refusal) → (answer_of k b).opening ≡ o → count_below (λ n. refuses_with n o) 28 ≡ choose (refuses o) 1 0
      go (Ok t) e = count_none (λ n. false) 28 (λ n l. refl)
      go (Err r) e = count_one r.number 28 (let h = (number_in k b e).1 in omega arith)

  in_editions : count_below (λ e. of_edition e (answer_of k b)) 4 ≡ choose (is_accepted (answer_of k b)) 1 0
  in_editions = go (answer_of k b).opening refl
    where
      go : (o : Result Told Refusal) → (answer_of k b).opening ≡ o
          → count_below (λ e. when_told (λ t. eqb t.file_edition e) o) 4 ≡ choose (when_told (λ t. true) o) 1 0
      go (Ok t) e = count_one t.file_edition 4 (let h = edition_in k b e in omega arith)
      go (Err r) e = count_none (λ n. false) 4 (λ n l. refl)

  -- accepted, with a stage
  in_stages : count_below (λ n. of_stage n (answer_of k b)) 16 ≡ choose (when_told (λ t. has_stage t.stage) (answer_of k b).opening) 1 0
  in_stages = go (answer_of k b).opening refl
    where
      told : (t : Told) → (answer_of k b).opening ≡ Ok t → (s : Option ℕ) → t.stage ≡ s → count_below (λ n. is_stage n s) 16 ≡ choose (has_stage s) 1 0
      told t e (Some n) q = count_one n 16 (let h = stage_in k b e q in omega arith)
      told t e None q = count_none (λ n. false) 16 (λ n l. refl)

      go : (o : Result Told Refusal) → (answer_of k b).opening ≡ o
          → count_below (λ n. when_told (λ t. is_stage n t.stage) o) 16 ≡ choose (when_told (λ t. has_stage t.stage) o) 1 0
      go (Ok t) e = told t e t.stage refl
      go (Err r) e = count_none (λ n. false) 16 (λ n l. refl)

set_or_unset : (s : Option ℕ) → choose (has_stage s) 1 0 + choose (is_unset s) 1 0 ≡ 1
set_or_unset (Some n) = refl
set_or_unset None = refl

stage_or_unset : (o : Result Told Refusal)
    → choose (when_told (λ t. has_stage t.stage) o) 1 0 + choose (when_told (λ t. is_unset t.stage) o) 1 0 ≡ choose (when_told (λ t. true) o) 1 0
stage_or_unset (Ok t) = set_or_unset t.stage
stage_or_unset (Err r) = refl

staged_or_unset : (h : List Answer) → tally (λ a. when_told (λ t. has_stage t.stage) a.opening) h + tally of_no_stage h ≡ tally is_accepted h
unfolding tally
staged_or_unset [] = refl
staged_or_unset (a ∷ h) = let r = staged_or_unset h in let s = stage_or_unset a.opening in omega arith

-- ---- the figures of up to 65,535 files
module _ (k : ℕ) (files : List (List ℕ)) (few : length files ≤ 65535) where
  pub refusals_complete : sum_below (λ n. get_or (counted k files).refusals n 0) 28 ≡ (counted k files).refused
  refusals_complete =
      let c = counts k files few in
      sum_agree _ _ 28 c.refusals ∙ sum_tallies k refused_with is_refused 28 (in_refusals k) files ∙ sym c.refused

  pub editions_complete : sum_below (λ e. get_or (counted k files).editions e 0) 4 ≡ (counted k files).accepted
  editions_complete =
      let c = counts k files few in
      sum_agree _ _ 4 c.editions ∙ sum_tallies k of_edition is_accepted 4 (in_editions k) files ∙ sym c.accepted

  pub stages_complete : sum_below (λ t. get_or (counted k files).stages t 0) 16 + (counted k files).unset ≡ (counted k files).accepted
  stages_complete =
      let c = counts k files few in
      let s = sum_agree _ _ 16 c.stages in
      let t = sum_tallies k of_stage (λ a. when_told (λ t. has_stage t.stage) a.opening) 16 (in_stages k) files in
      let u = staged_or_unset (history k files) in
      let v = c.unset in
      let w = c.accepted in
      omega arith

-- "A start at an edition above 3 counts every opening as 25"
all_25 : (k : ℕ) → 3 < k → (l : List (List ℕ)) → tally (refused_with 25) (history k l) ≡ length l
unfolding tally history
all_25 k h [] = refl
all_25 k h (b ∷ l) = let r = all_25 k h l in rw (above_3 k b h) (omega arith)

pub counted_as_25 : (k : ℕ) (files : List (List ℕ)) → length files ≤ 65535 → 3 < k → get_or (counted k files).refusals 25 0 ≡ length files
counted_as_25 k l n h = (counts k l n).refusals 25 (omega arith) ∙ all_25 k h l
