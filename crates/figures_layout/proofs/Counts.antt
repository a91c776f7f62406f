-- What the figures of a list of files tell.
-- Assumes nothing.
use Prim.Native.Nat.{ℕ, ◌+◌, ◌*◌, min, ◌<◌, ◌≤◌}
use mathlib.Core.Path.{◌≡◌, refl}
use mathlib.Core.Bool.{true}
use mathlib.Core.List.{List, [], ◌∷◌, ◌++◌, Permᴰ}
use native.Mathlib.Omega.{arith}
use lib.Dec.{eqb}
use lib.ListN.{length, get_or, length-append}
use Rattle.std.specs.Prelude.{Ok, Err}
use borrow.Author.Tests.{lt-leb, eq-eqb, ne_eqb}
use Rattle.figures_layout.specs.declared.Answer.{Answer}
use Rattle.figures_layout.specs.declared.Figures.{Figures}
use Rattle.figures_layout.specs.declared.JoinError.TheVariants.{OtherEdition, Full as NoRoom}
use Rattle.figures_layout.specs.Kinds.{history, is_accepted, is_refused, refused_with, of_edition, of_stage, of_no_stage, tally, total}
use Rattle.figures_layout.specs.Figures.{most_bytes, figures_of, fits, joined, counted, after_join}
use Rattle.figures_layout.proofs.Sums.{table_same, table_at}
use Rattle.figures_layout.proofs.Tallies.{history_append, history_length, all_tallied, tally_order, total_order, length_order, history_order}
use Rattle.figures_layout.proofs.Histories.{room_for, summed_one, counted_is}
use Rattle.figures_layout.proofs.Ranges.{length_in}

-- ---- each count
-- "accepted plus refused equals the number opened and each count the number of openings in the history with that answer"
pub record Counts (k : ℕ) (files : List (List ℕ)) (f : Figures) : Type 0 where
  pub edition : f.edition ≡ k
  pub opened : f.opened ≡ length files
  pub adds_up : f.accepted + f.refused ≡ f.opened
  pub accepted : f.accepted ≡ tally is_accepted (history k files)
  pub refused : f.refused ≡ tally is_refused (history k files)
  pub refusals : (n : ℕ) → n < 28 → get_or f.refusals n 0 ≡ tally (refused_with n) (history k files)
  pub editions : (e : ℕ) → e < 4 → get_or f.editions e 0 ≡ tally (of_edition e) (history k files)
  pub stages : (t : ℕ) → t < 16 → get_or f.stages t 0 ≡ tally (of_stage t) (history k files)
  pub unset : f.unset ≡ tally of_no_stage (history k files)
  -- "the sum of the accepted lengths", exact
  pub bytes : f.bytes ≡ total (history k files)

short_total : (k : ℕ) (l : List (List ℕ)) → total (history k l) ≤ 16777216 * length l
unfolding history total
short_total k [] = omega arith
short_total k (b ∷ l) = let r = short_total k l in let s = length_in k b in omega arith

pub counts : (k : ℕ) (files : List (List ℕ)) → length files ≤ 65535 → Counts k files (counted k files)
unfolding figures_of
counts k l n =
    let q = history_length k l in
    let s = short_total k l in
    rw (counted_is k l n)
    (record {
      edition = refl;
      opened = q;
      adds_up = all_tallied (history k l);
      accepted = refl;
      refused = refl;
      refusals = λ n b. table_at (λ n. tally (refused_with n) (history k l)) 28 n b;
      editions = λ e b. table_at (λ e. tally (of_edition e) (history k l)) 4 e b;
      stages = λ t b. table_at (λ t. tally (of_stage t) (history k l)) 16 t b;
      unset = refl;
      bytes = omega arith;
    })

-- ---- any order of files
pub any_order : (k : ℕ) {l m : List (List ℕ)} → Permᴰ l m → length l ≤ 65535 → counted k l ≡ counted k m
unfolding figures_of
any_order k {l} {m} r n =
    let e = length_order r in
    rw (counted_is k l n, counted_is k m (omega arith)) (same (history_order k r) (length_order (history_order k r)))
  where
    same : {h g : List Answer} → Permᴰ h g → length h ≡ length g → figures_of k h ≡ figures_of k g
    same {h} {g} r e = λ i.
        record {
          edition = k;
          bytes = min (total_order r i) most_bytes;
          opened = e i;
          accepted = tally_order is_accepted r i;
          refused = tally_order is_refused r i;
          refusals = table_same (λ n. tally (refused_with n) h) (λ n. tally (refused_with n) g) 28 (λ n. tally_order (refused_with n) r) i;
          editions = table_same (λ n. tally (of_edition n) h) (λ n. tally (of_edition n) g) 4 (λ n. tally_order (of_edition n) r) i;
          stages = table_same (λ n. tally (of_stage n) h) (λ n. tally (of_stage n) g) 16 (λ n. tally_order (of_stage n) r) i;
          unset = tally_order of_no_stage r i;
        }

-- ---- two lists of files
same_edition : (k : ℕ) (h g : List Answer) → eqb (figures_of k h).edition (figures_of k g).edition ≡ true
unfolding figures_of
same_edition k h g = eq-eqb k k refl

module _ (k : ℕ) (l m : List (List ℕ)) where
  -- "to give the figures of the one list after the other where that has at most 65,535 files"
  pub joined_lists : length (l ++ m) ≤ 65535 → joined (counted k l) (counted k m) ≡ Ok (counted k (l ++ m))
  unfolding joined
  joined_lists n =
      let s = length-append l m in
      let a = history_append k l m in
      let q : length (history k l ++ history k m) ≤ 65535 = rw (← a, history_length k (l ++ m)) n in
      let r = room_for k (history k l) (history k m) q in
      let t = summed_one k (history k l) (history k m) q in
      rw (counted_is k l (omega arith), counted_is k m (omega arith), counted_is k (l ++ m) n, a, same_edition k (history k l) (history k m), r, t)

  no_room : length l ≤ 65535 → length m ≤ 65535 → 65535 < length (l ++ m) → joined (counted k l) (counted k m) ≡ Err NoRoom
  unfolding joined fits figures_of
  no_room a b n =
      let s = length-append l m in
      let e : eqb k k ≡ true = eq-eqb k k refl in
      let p = history_length k l in
      let q = history_length k m in
      let r = lt-leb (length (history k l) + length (history k m)) 65535 (omega arith) in
      rw (counted_is k l a, counted_is k m b) (rw (e, r))

  -- "answered as full, the first unchanged, where not"
  pub joined_full : length l ≤ 65535 → length m ≤ 65535 → 65535 < length (l ++ m)
      → (joined (counted k l) (counted k m) ≡ Err NoRoom) × (after_join (counted k l) (joined (counted k l) (counted k m)) ≡ counted k l)
  joined_full a b n = let e = no_room a b n in (e, rw e)

-- "Figures of two editions don't join: that is an answer of its own, and changes nothing", of any figures
pub joined_other : (f g : Figures) → (f.edition ≡ g.edition → ⊥) → (joined f g ≡ Err OtherEdition) × (after_join f (joined f g) ≡ f)
unfolding joined
joined_other f g h = rw (ne_eqb f.edition g.edition h) (refl, refl)
