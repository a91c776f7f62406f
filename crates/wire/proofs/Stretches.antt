-- Laws of lists that are compared, and of a slice that is written stretch after stretch.
-- Assumes nothing.
use Prim.Native.Nat.{ℕ, ◌+◌, ◌-◌, ◌≤◌, ◌<◌}
use mathlib.Core.Path.{◌≡◌, refl, sym, ◌∙◌, ap}
use mathlib.Core.Bool.{true, true≢false}
use mathlib.Core.List.{List, [], ◌∷◌, ◌++◌, append_assoc, append-nil}
use native.Mathlib.Numerals.{add-one}
use native.Mathlib.Nat.{zero-add}
use native.Mathlib.Omega.{arith}
use lib.ListN.{length, get_or, take, drop, set, length-append, length-drop, drop_of_length-le, take-append-drop}
use lib.Seq.{take_at, drop_at, drop-drop, paste-suc, take-length, length-take-le}
use lib.Dec.{eqb}
use borrow.Author.Tests.{eq-eqb, ne_eqb, eqb-true}
use Rattle.wire.specs.Number.{placed}
use Rattle.wire.specs.Stretch.{copied, same_bytes}
use Rattle.wire.proofs.Choices.{both}
use Rattle.wire.proofs.Numbers.{placed_in}

-- lists with the same bytes are equal, and only they
pub same_told : (l m : List ℕ) → same_bytes l m ≡ true → l ≡ m
unfolding same_bytes
same_told [] [] e = refl
same_told [] (y ∷ m) e = absurd (true≢false (sym e))
same_told (x ∷ l) [] e = absurd (true≢false (sym e))
same_told (x ∷ l) (y ∷ m) e = let (a, r) = both (eqb x y) _ e in rw (eqb-true x y a, same_told l m r)

pub same_self : (l : List ℕ) → same_bytes l l ≡ true
unfolding same_bytes
same_self [] = refl
same_self (x ∷ l) = rw (eq-eqb x x refl) (same_self l)

module _ (o s : List ℕ) where
  pub copied_is : length o ≡ length s → copied o s ≡ s
  unfolding copied
  copied_is e = rw (eq-eqb _ _ e)

  pub copied_not : (length o ≡ length s → ⊥) → o ≡ copied o s
  unfolding copied
  copied_not h = rw (ne_eqb _ _ h)

  -- the loop that copies: one more, and all
  pub copy_more : (i : ℕ) → i < length o → i < length s → set (take i s ++ drop i o) i (get_or s i 0) ≡ take (i + 1) s ++ drop (i + 1) o
  copy_more i h g = let e = rw (zero-add i, zero-add) at (paste-suc o 0 s i 0 (rw zero-add h) g) in rw add-one e

  pub copy_all : (i : ℕ) → length o ≡ length s → i ≡ length s → take i s ++ drop i o ≡ copied o s
  copy_all i e q =
      let d : drop (length s) o ≡ [] = drop_of_length-le o {i = length s} (omega arith) in
      rw (q, take-length s, d, append-nil) (sym (copied_is e))

-- the stretch as long as v at a place is lent, and v is copied over it
pub lent_placed : (l v : List ℕ) (at : ℕ) {y : List ℕ} → at + length v ≤ length l → y ≡ copied (take (at + length v - at) (drop at l)) v
    → take at l ++ (y ++ drop (at + length v - at) (drop at l)) ≡ placed l at v
lent_placed l v at h q =
    let k : at + length v - at ≡ length v = omega arith in
    let n : length (take (length v) (drop at l)) ≡ length v = length-take-le (length v) (drop at l) (rw length-drop (omega arith)) in
    rw (q, k, copied_is _ v n, drop-drop) (sym (placed_in l at v h))

-- a slice that held o and holds x: f has been written up to the place e, and from there on it is as it was
pub record Written (o f : List ℕ) (e : ℕ) (x : List ℕ) : Type 0 where
  pub long : length f ≡ e
  pub holds : x ≡ f ++ drop e o

pub none_written : (o : List ℕ) → Written o [] 0 o
none_written o = record { long = refl; holds = refl }

module _ {o f x : List ℕ} {e : ℕ} (w : Written o f e x) where
  pub written_length_lem : e ≤ length o → length x ≡ length o
  written_length_lem h = let l = w.long in w_holds ∙ simp (length-append, length-drop) (omega arith)
    where
      w_holds : length x ≡ length (f ++ drop e o)
      w_holds = ap length w.holds

  pub all_written : length o ≡ e → x ≡ f
  all_written h =
      let d : drop e o ≡ [] = drop_of_length-le o {i = e} (omega arith) in
      w.holds ∙ rw (d, append-nil)

  pub front : take e x ≡ f
  front = rw w.holds (take_at f (drop e o) e w.long)

  rest : drop e x ≡ drop e o
  rest = rw w.holds (drop_at f (drop e o) e w.long)

  -- the stretch from e to t is lent, and comes back as y
  module _ (t : ℕ) (h : e ≤ t) where
    pub lent_length : t ≤ length o → length (take (t - e) (drop e x)) ≡ t - e
    lent_length l = rw rest (length-take-le (t - e) (drop e o) (rw length-drop (omega arith)))

    pub written_more : {y : List ℕ} (s : List ℕ) → y ≡ s → length s ≡ t - e → Written o (f ++ s) t (take e x ++ (y ++ drop (t - e) (drop e x)))
    written_more s q l =
        let k = w.long in
        let m : e + (t - e) ≡ t = omega arith in
        record {
          long = rw length-append (omega arith);
          holds = rw (q, front, rest, drop-drop (t - e) e o, m, append_assoc);
        }

    pub written_copy : {y : List ℕ} (s : List ℕ) → t ≤ length o → length s ≡ t - e → y ≡ copied (take (t - e) (drop e x)) s
        → Written o (f ++ s) t (take e x ++ (y ++ drop (t - e) (drop e x)))
    written_copy s l k q = written_more s (q ∙ copied_is _ s (lent_length l ∙ sym k)) k

  -- a number's bytes v are put at e
  pub written_number : {y : List ℕ} (v : List ℕ) (t : ℕ) → e + length v ≡ t → t ≤ length o → y ≡ placed x e v → Written o (f ++ v) t y
  written_number v t h l q =
      let n = written_length_lem (omega arith) in
      let k = w.long in
      let g : e + length v ≤ length x = omega arith in
      record {
        long = rw length-append (omega arith);
        holds = q ∙ placed_in x e v g ∙ rw (front, ← drop-drop (length v) e x, rest, drop-drop, h, append_assoc);
      }

-- bytes in front of others
pub front_shown : (v l : List ℕ) → take (length v) (v ++ l) ≡ v
front_shown v l = take_at v l (length v) refl

-- bytes that are put in front, and bytes that are put one after the other: they are put as one
pub placed_front : (l v : List ℕ) → length v ≤ length l → placed l 0 v ≡ v ++ drop (length v) l
placed_front l v h = let g : 0 + length v ≤ length l = omega arith in placed_in l 0 v g ∙ rw zero-add

pub placed_on : (l u v : List ℕ) (at e : ℕ) → at + length u ≡ e → e + length v ≤ length l → placed (placed l at u) e v ≡ placed l at (u ++ v)
placed_on l u v at e q h =
    let w : Written l (take at l) at l = record { long = length-take-le at l (omega arith); holds = sym (take-append-drop at l) } in
    let x = written_number w u e q (omega arith) refl in
    let y = written_number x v (e + length v) refl h refl in
    let z = written_number w (u ++ v) (e + length v) (rw length-append (omega arith)) h refl in
    y.holds ∙ ap (λ f. f ++ drop (e + length v) l) (append_assoc (take at l) u v) ∙ sym z.holds

-- a stretch from the start was lent and came back as v
pub front_written : (o v : List ℕ) (e : ℕ) → length v ≡ e → Written o v e (v ++ drop e o)
front_written o v e h = record { long = h; holds = refl }

-- the stretch from e to the end is lent, and comes back as y
module _ {o f x : List ℕ} {e : ℕ} (w : Written o f e x) (h : e ≤ length o) where
  pub rest_length : length (take (length x - e) (drop e x)) ≡ length o - e
  rest_length = let l = written_length_lem w h in lent_length w (length x) (omega arith) (omega arith) ∙ omega arith

  pub rest_written : {y : List ℕ} (s : List ℕ) → y ≡ s → length s ≡ length o - e → take e x ++ (y ++ drop (length x - e) (drop e x)) ≡ f ++ s
  rest_written s q k = let l = written_length_lem w h in all_written (written_more w (length x) (omega arith) s q (omega arith)) (omega arith)

  pub rest_copied : {y : List ℕ} (s : List ℕ) → length s ≡ length o - e → y ≡ copied (take (length x - e) (drop e x)) s
      → take e x ++ (y ++ drop (length x - e) (drop e x)) ≡ f ++ s
  rest_copied s k q = rest_written s (q ∙ copied_is _ s (rest_length ∙ sym k)) k
