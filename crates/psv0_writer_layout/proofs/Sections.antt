-- The sections at what the code has written.
-- Assumes nothing.
use Prim.Native.Nat.{ℕ, ◌+◌, ◌-◌, ◌/◌, ◌≤◌}
use mathlib.Core.Path.{◌≡◌, refl, ◌∙◌, ap}
use mathlib.Core.List.{List, [], ◌∷◌, ◌++◌, append_assoc, append-nil}
use native.Mathlib.Omega.{arith}
use lib.ListN.{length, take, drop, length-append}
use borrow.Author.Tests.{ne_eqb, le-leb}
use Rattle.wire.specs.Number.{le32, placed}
use Rattle.wire.proofs.Numbers.{le32_length}
use Rattle.wire.proofs.Stretches.{Written, none_written, front_written, written_number, written_more}
use Rattle.psv0_writer_layout.specs.Stretch.{size_field, size_field_length, head_bytes, body_bytes, head_length, body_length, written_bytes, written_length}
use Rattle.psv0_writer_layout.specs.Written.{Given, resource_size_of}
use Rattle.psv0_writer_layout.proofs.Stretches.{size_field_lem, head_length_lem}

-- ---- a number and then bytes
pub counted_length : (n : ℕ) (b : List ℕ) → length (le32 n ++ b) ≡ 4 + length b
counted_length n b = rw (length-append, le32_length)

pub number_written : (o : List ℕ) (n : ℕ) {y : List ℕ} → 4 ≤ length o → y ≡ placed o 0 (le32 n) → Written o (le32 n) 4 y
unfolding le32
number_written o n h q = written_number (none_written o) (le32 n) 4 refl h q

pub counted_front : (o : List ℕ) (n : ℕ) (b : List ℕ) {v : List ℕ} → v ≡ le32 n ++ b
    → Written o (le32 n ++ b) (4 + length b) (v ++ drop (4 + length b) o)
counted_front o n b q = rw q (front_written o (le32 n ++ b) (4 + length b) (counted_length n b))

-- ---- records with their size
pub records_length : (s : ℕ) (b : List ℕ) → length (size_field s b ++ b) ≡ size_field_length b + length b
records_length s b = length-append (size_field s b) b ∙ ap (λ (n : ℕ). n + length b) (size_field_lem s b)

pub no_records : (o b : List ℕ) (s : ℕ) → length b ≡ 0 → length o ≡ size_field_length b + length b → o ≡ size_field s b ++ b
no_records [] [] s h k = refl
no_records (x ∷ o) [] s h k = absurd (omega arith)
no_records o (x ∷ b) s h k = absurd (omega arith)

module _ (b : List ℕ) (some : length b ≡ 0 → ⊥) where
  pub some_length : size_field_length b ≡ 4
  some_length = simp (ne_eqb _ _ some)

  pub some_records : (s : ℕ) → le32 s ++ b ≡ size_field s b ++ b
  some_records s = simp (ne_eqb _ _ some)

regroup : (a b c d e l : List ℕ) → (a ++ (b ++ (c ++ (d ++ (e ++ []))))) ++ l ≡ a ++ (b ++ (c ++ (d ++ (e ++ l))))
regroup a b c d e l = simp (append_assoc, append-nil)

-- ---- sections 3 to 5 in a slice that held o: the stretch from e to n of x comes back as y
abbrev pasted : ℕ → ℕ → List ℕ → List ℕ → List ℕ
pasted e n x y = take e x ++ (y ++ drop (n - e) (drop e x))

module _ (o t x : List ℕ) {v w : List ℕ} (qt : v ≡ le32 (length t) ++ t) (qx : w ≡ le32 (length x / 4) ++ x) where
  abbrev tables_end : ℕ
  tables_end = 4 + length t + 4 + length x

  abbrev after_tables : List ℕ
  after_tables = pasted (4 + length t) tables_end (v ++ drop (4 + length t) o) w

  pub tables_written : Written o ((le32 (length t) ++ t) ++ (le32 (length x / 4) ++ x)) tables_end after_tables
  tables_written = written_more (counted_front o (length t) t qt) tables_end (omega arith) _ qx (counted_length _ x ∙ omega arith)

  pub elements_written : (b : List ℕ) {f : ℕ} {y : List ℕ} → f ≡ size_field_length b → y ≡ size_field 16 b ++ b
      → Written o (((le32 (length t) ++ t) ++ (le32 (length x / 4) ++ x)) ++ (size_field 16 b ++ b)) (tables_end + f + length b)
      (pasted tables_end (tables_end + f + length b) after_tables y)
  elements_written b k q =
      written_more tables_written (tables_end + _ + length b) (omega arith) _ q (records_length 16 b ∙ omega arith)

-- ---- sections 1 and 2, and 3 to 6, and all
module _ (e : ℕ) (g : Given) where
  pub head_laid_lem : {s : ℕ} → s ≡ resource_size_of e
      → (le32 (length g.runtime) ++ g.runtime) ++ (le32 (length g.resources / s) ++ (size_field s g.resources ++ g.resources)) ≡ head_bytes e g []
  unfolding head_bytes
  head_laid_lem q = rw q (simp (append_assoc, append-nil))

  pub head_front : (o : List ℕ) {h : ℕ} {v : List ℕ} → v ≡ head_bytes e g [] → h ≡ head_length g → Written o (head_bytes e g []) h (v ++ drop h o)
  head_front o q k = rw q (front_written o _ _ (head_length_lem e g [] ∙ omega arith))

  pub head_fits : head_length g ≤ written_length e g
  unfolding written_length
  head_fits = omega arith

  module _ (z : e ≡ 0) where
    pub head_only_lem : written_length e g ≡ head_length g
    unfolding written_length
    head_only_lem = rw z (omega arith)

    pub head_whole : head_bytes e g [] ≡ written_bytes e g
    unfolding written_bytes
    head_whole = rw z

  module _ (later : e ≡ 0 → ⊥) where
    pub head_and_body : written_length e g ≡ head_length g + body_length g
    unfolding written_length
    head_and_body = rw (le-leb 1 e (omega arith))

    pub both_laid : head_bytes e g [] ++ body_bytes g ≡ written_bytes e g
    unfolding written_bytes head_bytes
    both_laid =
        rw (le-leb 1 e (omega arith))
        (regroup (le32 (length g.runtime)) g.runtime (le32 (length g.resources / resource_size_of e)) (size_field (resource_size_of e) g.resources)
        g.resources (body_bytes g))

pub body_laid_lem : (g : Given)
    → (((le32 (length g.strings) ++ g.strings) ++ (le32 (length g.indices / 4) ++ g.indices)) ++ (size_field 16 g.elements ++ g.elements)) ++ g.masks ≡ body_bytes g
unfolding body_bytes
body_laid_lem g = simp append_assoc
