-- The figures of a list of files are those of its history of openings.
-- Assumes nothing.
use Prim.Native.Nat.{ℕ, ◌+◌, min, ◌<◌, ◌≤◌}
use mathlib.Core.Path.{◌≡◌, refl, sym, ◌∙◌, ap}
use mathlib.Core.Bool.{Bool, true}
use mathlib.Core.List.{List, [], ◌∷◌, ◌++◌, append_assoc, append-nil}
use native.Mathlib.Omega.{arith}
use lib.ListN.{length, length-append}
use borrow.Author.Tests.{le-leb, lt-leb}
use Rattle.container_layout.specs.Container.{container_judged}
use Rattle.std.specs.Prelude.{Ok, Err}
use Rattle.wire.specs.Verdict.{under}
use Rattle.figures_layout.specs.declared.Answer.{Answer}
use Rattle.figures_layout.specs.declared.Figures.{Figures}
use Rattle.figures_layout.specs.Kinds.{answer_of, history, is_accepted, is_refused, refused_with, of_edition, of_stage, of_no_stage, tally, total}
use Rattle.figures_layout.specs.Figures.{most, most_bytes, plus, sum_up_to, table, figures_of, sums, summed, fits, started, single, added, after, carried, counted}
use Rattle.figures_layout.proofs.Sums.{sum_is, sum_most, table_sums}
use Rattle.figures_layout.proofs.Tallies.{tally_append, total_append, history_length, tally_le}

-- ---- two histories, one after the other
module _ (e : ℕ) (h k : List Answer) (l : length (h ++ k) ≤ 65535) where
  tallies : (p : Answer → Bool) → plus (tally p h) (tally p k) ≡ tally p (h ++ k)
  tallies p = let q = tally_append p h k in let b = tally_le p (h ++ k) in sum_is most (tally p h) (tally p k) (omega arith) ∙ sym q

  tables : (p : ℕ → Answer → Bool) (n : ℕ)
      → sums (table (λ i. tally (p i) h) n) (table (λ i. tally (p i) k) n) ≡ table (λ i. tally (p i) (h ++ k)) n
  tables p n = table_sums (λ i. tally (p i) h) (λ i. tally (p i) k) (λ i. tally (p i) (h ++ k)) n (λ i. tallies (p i))

  pub summed_one : summed (figures_of e h) (figures_of e k) ≡ figures_of e (h ++ k)
  unfolding summed figures_of
  summed_one = λ i.
      record {
        edition = e;
        bytes = bytes_path i;
        opened = opened_path i;
        accepted = tallies is_accepted i;
        refused = tallies is_refused i;
        refusals = tables refused_with 28 i;
        editions = tables of_edition 4 i;
        stages = tables of_stage 16 i;
        unset = tallies of_no_stage i;
      }
    where
      opened_path : plus (length h) (length k) ≡ length (h ++ k)
      opened_path = let n = length-append h k in sum_is most (length h) (length k) (omega arith) ∙ sym n

      bytes_path : sum_up_to most_bytes (min (total h) most_bytes) (min (total k) most_bytes) ≡ min (total (h ++ k)) most_bytes
      bytes_path = sum_most most_bytes (total h) (total k) ∙ rw total_append

  pub room_for : fits (figures_of e h) (figures_of e k) ≡ true
  unfolding fits figures_of
  room_for = let n = length-append h k in le-leb (length h + length k) 65535 (omega arith)

-- ---- from container to container: f are the figures of a history h at edition k
module _ (k : ℕ) (h : List Answer) (b : List ℕ) where
  -- with fewer than 65,535 opened, one more is counted
  pub one_more : length h < 65535
      → added (figures_of k h) b ≡ Ok (record { opening = under (container_judged k b) tt; figures = figures_of k (h ++ (answer_of k b ∷ [])) })
  unfolding added single figures_of
  one_more l =
      let n = length-append h (answer_of k b ∷ []) in
      let r : fits (figures_of k h) (figures_of k (answer_of k b ∷ [])) ≡ true = room_for k h (answer_of k b ∷ []) (omega arith) in
      let s : summed (figures_of k h) (figures_of k (answer_of k b ∷ [])) ≡ figures_of k (h ++ (answer_of k b ∷ [])) = summed_one k h (answer_of k b ∷ []) (omega arith) in
      rw (r, s)

  no_more : 65535 ≤ length h → added (figures_of k h) b ≡ Err (record {})
  unfolding added single fits figures_of
  no_more l = rw (lt-leb (length h + 1) 65535 (omega arith))

  -- "A container past 65,535 changes nothing and is answered as full"
  pub past_most : 65535 ≤ length h → (added (figures_of k h) b ≡ Err (record {})) × (after (figures_of k h) (added (figures_of k h) b) ≡ figures_of k h)
  past_most l = let e = no_more l in (e, rw e)

-- the same of any figures, made up or not: they stay as they were
pub full_kept : (f : Figures) (b : List ℕ) → f.opened ≡ 65535 → (added f b ≡ Err (record {})) × (after f (added f b) ≡ f)
unfolding added single fits figures_of
full_kept f b e = rw e (refl, refl)

-- figures that are full stay so
carried_full : (k : ℕ) (h : List Answer) (l : List (List ℕ)) → 65535 ≤ length h → carried (figures_of k h) l ≡ figures_of k h
unfolding carried
carried_full k h [] n = refl
carried_full k h (b ∷ l) n = rw ((past_most k h b n).0) (carried_full k h l n)

carried_is : (k : ℕ) (h : List Answer) (l : List (List ℕ)) → length (h ++ history k l) ≤ 65535
    → carried (figures_of k h) l ≡ figures_of k (h ++ history k l)
unfolding carried history
carried_is k h [] n = ap (figures_of k) (sym (append-nil h))
carried_is k h (b ∷ l) n =
    let e : (h ++ (answer_of k b ∷ [])) ++ history k l ≡ h ++ (answer_of k b ∷ history k l) = append_assoc h (answer_of k b ∷ []) (history k l) in
    let m = length-append h (answer_of k b ∷ history k l) in
    rw (one_more k h b (omega arith)) (carried_is k (h ++ (answer_of k b ∷ [])) l (rw e n) ∙ ap (figures_of k) e)

carried_append : (f : Figures) (l m : List (List ℕ)) → carried f (l ++ m) ≡ carried (carried f l) m
unfolding carried
carried_append f [] m = refl
carried_append f (b ∷ l) m = carried_append (after f (added f b)) l m

module _ (k : ℕ) (l : List (List ℕ)) where
  -- the figures of up to 65,535 files are those of the history
  pub counted_is : length l ≤ 65535 → counted k l ≡ figures_of k (history k l)
  unfolding counted started
  counted_is n = let q = history_length k l in carried_is k [] l (omega arith)

  -- and with more files those of the first 65,535
  pub counted_first : (m : List (List ℕ)) → length l ≡ 65535 → counted k (l ++ m) ≡ counted k l
  unfolding counted
  counted_first m n =
      let q = history_length k l in
      let e : carried (started k) l ≡ figures_of k (history k l) = unfold counted in counted_is (omega arith) in
      carried_append (started k) l m ∙ rw e (carried_full k (history k l) m (omega arith))
