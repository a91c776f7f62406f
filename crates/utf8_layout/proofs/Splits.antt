-- A string is well formed exactly when it is a row of sequences, its code points are their number, and no string splits in two ways.
-- Assumes nothing.
use Prim.Native.Nat.{ℕ, zero, suc, ◌+◌, ◌≤◌, ◌<◌}
use mathlib.Core.Path.{◌≡◌, refl, sym, ◌∙◌, ap}
use mathlib.Core.Bool.{Bool, true, false, true≢false}
use mathlib.Core.List.{List, [], ◌∷◌, ◌++◌}
use native.Mathlib.Omega.{arith}
use lib.Dec.{ltb, eqb}
use lib.ListN.{length, take, drop, take-append-drop, length-append}
use lib.Seq.{length-take-le, take-append_seam, drop-append_seam}
use borrow.Author.Tests.{lt-ltb, eq-eqb, ltb-true, eqb-true}
use Rattle.wire.specs.Choice.{choose}
use Rattle.wire.proofs.Choices.{both}
use Rattle.utf8_layout.specs.Sequence.{Range, ◌to◌, sequences, table, within, fits, front, more, after, counted, is_whole, well_formed, code_points}
use Rattle.utf8_layout.specs.Split.{is_sequence, are_sequences, join, Split}
use Rattle.utf8_layout.proofs.Rows.{Row, none, rest, row_for, front_of, front_for, front_length, front_append, table_rising}
use Rattle.utf8_layout.proofs.Joined.{whole_more, join_well, join_points}

-- what a sequence tells
sequence_is : (s : List ℕ) → is_sequence s ≡ true → (0 < length s) × (front table s ≡ length s)
unfolding is_sequence
sequence_is s h = let b = both (ltb 0 (length s)) (eqb (front table s) (length s)) h in (ltb-true 0 (length s) b.0, eqb-true (front table s) (length s) b.1)

-- ---- a row of sequences is well formed
skip_all : (l : List ℕ) → counted l (length l) ≡ sequences 0
unfolding counted
skip_all [] = refl
skip_all (x ∷ l) = skip_all l

one_counted : (s : List ℕ) → is_sequence s ≡ true → counted s 0 ≡ sequences 1
unfolding counted after more
one_counted [] h = let q = sequence_is [] h in absurd (omega (arith, q.0))
one_counted (x ∷ s) h = let q = sequence_is (x ∷ s) h in rw (q.1, skip_all s)

row_counted : (ss : List (List ℕ)) → are_sequences ss ≡ true → (well_formed (join ss) ≡ true) × (code_points (join ss) ≡ length ss)
unfolding are_sequences join
row_counted [] h = unfold well_formed code_points counted in (refl, refl)
row_counted (s ∷ ss) h =
    let b = both (is_sequence s) (are_sequences ss) h in
    let r = row_counted ss b.1 in
    let w : well_formed s ≡ true = unfold well_formed in rw (one_counted s b.0) in
    let c : code_points s ≡ 1 = unfold code_points in rw (one_counted s b.0) in
    (join_well s (join ss) w r.0, join_points s (join ss) w r.0 ∙ rw (c, r.1) (omega arith))

pub split_well : (l : List ℕ) (ss : List (List ℕ)) → Split l ss → (well_formed l ≡ true) × (code_points l ≡ length ss)
split_well l ss q = rw (← q.joined) (row_counted ss q.sequences)

-- ---- a well-formed string is a row of sequences
fits_take : (rs : List Range) (l : List ℕ) → fits rs l ≡ true → fits rs (take (length rs) l) ≡ true
unfolding fits
fits_take [] l h = refl
fits_take (r ∷ rs) [] h = h
fits_take (lo to hi ∷ rs) (x ∷ l) h = let b = both (within lo hi x) (fits rs l) h in rw (b.0, fits_take rs l b.1)

front_take : (x : ℕ) (l : List ℕ) (k : ℕ) → front table (x ∷ l) ≡ suc k → front table (x ∷ take k l) ≡ suc k
front_take x l k e = rw (front_for 0 table x (take k l) table_rising) (go (row_for table x) (sym (front_for 0 table x l table_rising) ∙ e))
  where
    go : (r : Row) → front_of r l ≡ suc k → front_of r (take k l) ≡ suc k
    go none f = unfold front_of in f
    go (rest rs) f = unfold front_of in fit (fits rs l) refl f
      where
        fit : (t : Bool) → fits rs l ≡ t → choose t (suc (length rs)) 0 ≡ suc k → choose (fits rs (take k l)) (suc (length rs)) 0 ≡ suc k
        fit true g f =
            let n : length rs ≡ k = omega arith in
            let w : fits rs (take k l) ≡ true = rw (← n) (fits_take rs l g) in
            rw w f
        fit false g f = absurd (omega arith)

found : (l : List ℕ) (k : ℕ) → k ≤ length l → is_whole (counted l k) ≡ true → (ss : List (List ℕ)) × (are_sequences ss ≡ true) × (join ss ≡ drop k l)
unfolding counted
found [] zero h w = unfold are_sequences join in ([], refl, refl)
found [] (suc k) h w = absurd (omega arith)
found (x ∷ l) (suc k) h w = found l k (omega arith) w
found (x ∷ l) zero h w = go (front table (x ∷ l)) refl (front_length table (x ∷ l)) w (λ k. found l k)
  where
    go : (n : ℕ) → front table (x ∷ l) ≡ n → n ≤ suc (length l) → is_whole (after n (λ k. counted l k)) ≡ true
        → ((k : ℕ) → k ≤ length l → is_whole (counted l k) ≡ true → (ss : List (List ℕ)) × (are_sequences ss ≡ true) × (join ss ≡ drop k l))
        → (ss : List (List ℕ)) × (are_sequences ss ≡ true) × (join ss ≡ x ∷ l)
    go zero e g w f = unfold after in absurd (true≢false (sym w))
    go (suc k) e g w f =
        unfold after are_sequences join is_sequence in
        let r = f k (omega arith) (sym (whole_more (counted l k)) ∙ w) in
        let n : length (take k l) ≡ k = length-take-le k l (omega arith) in
        ((x ∷ take k l) ∷ r.0, rw (front_take x l k e, n, lt-ltb 0 (suc k) (omega arith), eq-eqb (suc k) (suc k) refl) r.1, rw r.2 (ap (λ (z : List ℕ). x ∷ z) (take-append-drop k l)))

pub split_found : (l : List ℕ) → well_formed l ≡ true → (ss : List (List ℕ)) × Split l ss
unfolding well_formed
split_found l h = let r = found l 0 (omega arith) h in (r.0, record { sequences = r.1; joined = r.2 })

-- ---- in one way
front_of_lem : (s r : List ℕ) → is_sequence s ≡ true → front table (s ++ r) ≡ length s
front_of_lem [] r h = let q = sequence_is [] h in absurd (omega (arith, q.0))
front_of_lem (x ∷ s) r h = let q = sequence_is (x ∷ s) h in front_append x s r (rw q.1 (omega arith)) ∙ q.1

same_first : (s r p q : List ℕ) → is_sequence s ≡ true → is_sequence p ≡ true → s ++ r ≡ p ++ q → (s ≡ p) × (r ≡ q)
same_first s r p q h g e =
    let n : length s ≡ length p = sym (front_of_lem s r h) ∙ ap (front table) e ∙ front_of_lem p q g in
    (sym (take-append_seam s r) ∙ rw (e, n) (take-append_seam p q), sym (drop-append_seam s r) ∙ rw (e, n) (drop-append_seam p q))

one_way : (ss qs : List (List ℕ)) → are_sequences ss ≡ true → are_sequences qs ≡ true → join ss ≡ join qs → ss ≡ qs
unfolding are_sequences join
one_way [] [] h g e = refl
one_way [] (q ∷ qs) h g e =
    let b = both (is_sequence q) (are_sequences qs) g in
    let n : 0 ≡ length q + length (join qs) = ap length e ∙ length-append q (join qs) in
    absurd (omega (arith, (sequence_is q b.0).0))
one_way (s ∷ ss) [] h g e =
    let b = both (is_sequence s) (are_sequences ss) h in
    let n : length s + length (join ss) ≡ 0 = sym (length-append s (join ss)) ∙ ap length e in
    absurd (omega (arith, (sequence_is s b.0).0))
one_way (s ∷ ss) (q ∷ qs) h g e =
    let b = both (is_sequence s) (are_sequences ss) h in
    let d = both (is_sequence q) (are_sequences qs) g in
    let w = same_first s (join ss) q (join qs) b.0 d.0 e in
    rw (w.0, one_way ss qs b.1 d.1 w.1)

pub split_one : (l : List ℕ) (ss qs : List (List ℕ)) → Split l ss → Split l qs → ss ≡ qs
split_one l ss qs p q = one_way ss qs p.sequences q.sequences (p.joined ∙ sym q.joined)
