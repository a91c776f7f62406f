-- Laws of lines that are put together.
-- Assumes nothing.
use Prim.Native.Nat.{ℕ, ◌+◌, ◌≤◌}
use mathlib.Core.Path.{◌≡◌, refl, sym, ◌∙◌, ap}
use mathlib.Core.Bool.{true, false}
use mathlib.Core.List.{List, [], ◌++◌, append_assoc}
use native.Mathlib.Omega.{arith}
use lib.ListN.{length, take, drop, replicate, length-append, length-replicate}
use Rattle.wire.specs.Number.{placed}
use Rattle.io.specs.Counts.{IsPrefixLen}
use Rattle.wire.proofs.Stretches.{front_shown, placed_front, placed_on}
use Rattle.constants.specs.Name.{is_known}
use Rattle.lines.specs.Line.{known, unknown, space, numbers, name_text, mark, part_line, line_of}
use Rattle.lines.specs.Number.{decimal}
use Rattle.lines.specs.declared.Line.{Line}

-- bytes that are put one after the other
pub two_put : (l u v : List ℕ) (at : ℕ) {e : ℕ} {x y : List ℕ} → x ≡ placed l at u → y ≡ placed x e v → at + length u ≡ e → e + length v ≤ length l
    → y ≡ placed l at (u ++ v)
two_put l u v at p q h k = rw (q, p) (placed_on l u v at _ h k)

-- s has been put in n zeros; then comes t
pub zeros_end : (n : ℕ) (s t : List ℕ) {e : ℕ} {x y : List ℕ} → x ≡ s ++ drop (length s) (replicate n 0) → y ≡ placed x e t → e ≡ length s
    → e + length t ≤ n → y ≡ (s ++ t) ++ drop (length (s ++ t)) (replicate n 0)
zeros_end n s t {e} {x} p q h k =
    let l : List ℕ = replicate n 0 in
    let room : length l ≡ n = length-replicate {A = ℕ} n 0 in
    let m : length (s ++ t) ≡ length s + length t = length-append s t in
    let front : x ≡ placed l 0 s = p ∙ sym (placed_front l s (omega arith)) in
    two_put l s t 0 front q (omega arith) (omega arith) ∙ placed_front l (s ++ t) (omega arith)

pub front_counts : (s l : List ℕ) → IsPrefixLen (length s) (s ++ l)
front_counts s l = (rw length-append (omega arith), ap length (sym (front_shown s l)))

-- a line that was made: the first bytes are its text
module _ (s : List ℕ) {r : Line} (e : r ≡ line_of s) where
  pub line_long : r.len ≡ length s
  unfolding line_of
  line_long = ap (λ (l : Line). l.len) e

  pub line_shows : take r.len r.bytes ≡ s
  unfolding line_of
  line_shows = rw e (front_shown s _)

  pub line_counts : IsPrefixLen r.len r.bytes
  unfolding line_of
  line_counts = rw e (front_counts s _)

  -- t is put after it
  pub line_more : (t : List ℕ) {l : Line} → l.bytes ≡ placed r.bytes r.len t → l.len ≡ r.len + length t → r.len + length t ≤ 64 → l ≡ line_of (s ++ t)
  unfolding line_of
  line_more t {l} p q k =
      let m : length (s ++ t) ≡ length s + length t = length-append s t in
      let n = line_long in
      let made : l.bytes ≡ (s ++ t) ++ drop (length (s ++ t)) (replicate 64 0) = zeros_end 64 s t (ap (λ (w : Line). w.bytes) e) p n k in
      let long : l.len ≡ length (s ++ t) = omega arith in
      λ i. record { bytes = made i; len = long i }

-- a line with nothing in it
pub nothing : record { bytes = replicate 64 0; len = 0 } ≡ line_of []
unfolding line_of
nothing = refl

module _ (m n : ℕ) where
  numbers_length : length (numbers m n) ≡ length (decimal m) + 1 + length (decimal n)
  unfolding numbers
  numbers_length = rw length-append (omega arith)

  pub numbers_end : (at : ℕ) {e r : ℕ} → e ≡ at + length (decimal m) → r ≡ e + 1 + length (decimal n) → r ≡ at + length (numbers m n)
  numbers_end at h g = rw numbers_length (omega arith)

  pub numbers_short : length (decimal m) ≤ 20 → length (decimal n) ≤ 20 → length (numbers m n) ≤ 41
  numbers_short h g = rw numbers_length (omega arith)

  -- two numbers that are put one after the other, with a space between them
  pub numbers_put : (t : List ℕ) → ((t ++ decimal m) ++ space) ++ decimal n ≡ t ++ numbers m n
  unfolding numbers
  numbers_put t = append_assoc (t ++ decimal m) space (decimal n) ∙ append_assoc t (decimal m) (space ++ decimal n)

module _ (x : ℕ) where
  pub is_known_lem : is_known x ≡ true → known ≡ mark x
  unfolding mark
  is_known_lem e = rw e

  pub is_unknown : is_known x ≡ false → unknown ≡ mark x
  unfolding mark
  is_unknown e = rw e

-- what is put one after the other for a part
pub part_put : (name offset size : ℕ) (t : List ℕ) → t ≡ mark name
    → ((name_text name ++ space) ++ numbers offset size) ++ t ≡ part_line name offset size
unfolding part_line
part_put name offset size t e =
    let front = append_assoc (name_text name) space (numbers offset size) in
    ap (λ u. u ++ t) front ∙ ap (λ u. (name_text name ++ (space ++ numbers offset size)) ++ u) e
