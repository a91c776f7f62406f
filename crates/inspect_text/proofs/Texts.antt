-- Laws of the small program's text.
-- Assumes nothing.
use Prim.Native.Nat.{ℕ, ◌+◌, ◌*◌, ◌≤◌, ◌<◌}
use mathlib.Core.Path.{◌≡◌, refl, sym, ◌∙◌, ap}
use mathlib.Core.Bool.{false}
use mathlib.Core.List.{List, [], ◌++◌, append_assoc, append-nil}
use native.Mathlib.Numerals.{add-one}
use native.Mathlib.Omega.{arith}
use lib.ListN.{length, get_or, take, drop, replicate, length-append}
use borrow.Author.Tests.{le-leb, lt-leb}
use Rattle.std.specs.Prelude.{Result, Ok, Err}
use Rattle.wire.specs.declared.Refusal.{Refusal}
use Rattle.wire.specs.Number.{placed}
use Rattle.wire.proofs.Stretches.{front_shown}
use Rattle.io.specs.Counts.{IsPrefixLen}
use Rattle.container.specs.Opened.{container_opening_of}
use Rattle.container.specs.declared.ContainerOpening.{ContainerOpening}
use Rattle.container.proofs.Queries.{opening_refused, opening_accepted, opening_parts, opening_edition}
use Rattle.container_layout.proofs.Containers.{opened_told, before_told}
use Rattle.inspect_text.specs.Inspected.{part_lines, printed_if, printed_at, too_long, inspected, output_of}
use Rattle.inspect_text.specs.declared.Output.{Output}
use Rattle.lines.specs.Line.{accepted_line, refused_line, part_line}
use Rattle.lines.proofs.Lines.{zeros_end, front_counts}
use Rattle.part_table_layout.specs.Table.{count_of, name_at, offset_at, size_at, table_judged, table_of, accepted_table}
use Rattle.part_table_layout.specs.declared.Table.{Table}
use Rattle.part_table_layout.proofs.Accepted.{accepted_told, table_accepted}
use Rattle.part_table_layout.proofs.Filled.{filled_below}
use Rattle.wire.specs.Verdict.{Accepted}

-- ---- the table that is gone through
module _ (b : List ℕ) {t : Table} (h : table_judged b ≡ Accepted) (e : t ≡ table_of b) where
  is : t ≡ accepted_table false 0 b
  is = e ∙ table_accepted false 0 b h

  few : count_of b ≤ 96
  few = (accepted_told b h).header.few

  pub count_is : t.count ≡ count_of b
  count_is = ap (λ (u : Table). u.count) is

  pub count_few : t.count ≤ 96
  count_few = rw count_is few

  -- the line of an entry is the part's
  pub entry_line : (i : ℕ) → i < t.count
      → part_line (get_or t.names i 0) (get_or t.offsets i 0) (get_or t.sizes i 0) ≡ part_line (name_at b i) (offset_at b i) (size_at b i)
  entry_line i l =
      let g : i < count_of b = rw (← count_is) l in
      rw (is, filled_below (name_at b) (count_of b) i few g, filled_below (offset_at b) (count_of b) i few g, filled_below (size_at b) (count_of b) i few g)

-- ---- a text that was made: the first bytes are what it shows
module _ (s : List ℕ) {r : Output} (e : r ≡ output_of s) where
  output_long : r.len ≡ length s
  unfolding output_of
  output_long = ap (λ (o : Output). o.len) e

  pub output_shows : take r.len r.bytes ≡ s
  unfolding output_of
  output_shows = rw e (front_shown s _)

  pub output_counts : IsPrefixLen r.len r.bytes
  unfolding output_of
  output_counts = rw e (front_counts s _)

  -- t is put after it
  pub output_more : (t : List ℕ) {o : Output} → o.bytes ≡ placed r.bytes r.len t → o.len ≡ r.len + length t → r.len + length t ≤ 6208
      → o ≡ output_of (s ++ t)
  unfolding output_of
  output_more t {o} p q k =
      let m : length (s ++ t) ≡ length s + length t = length-append s t in
      let n = output_long in
      let made : o.bytes ≡ (s ++ t) ++ drop (length (s ++ t)) (replicate 6208 0) = zeros_end 6208 s t (ap (λ (w : Output). w.bytes) e) p n k in
      let long : o.len ≡ length (s ++ t) = omega arith in
      λ i. record { bytes = made i; len = long i }

-- a text with nothing in it
pub nothing_shown : record { bytes = replicate 6208 0; len = 0 } ≡ output_of []
unfolding output_of
nothing_shown = refl

-- ---- the lines of the first i parts have been put after the text o
pub record Listed (o : Output) (b : List ℕ) (i : ℕ) (x : Output) : Type 0 where
  pub short : x.len ≤ o.len + 64 * i
  pub holds : (t : List ℕ) → o ≡ output_of t → x ≡ output_of (t ++ part_lines b i)

pub none_listed : (o : Output) (b : List ℕ) → Listed o b 0 o
unfolding part_lines
none_listed o b = record { short = omega arith; holds = λ t e. e ∙ ap output_of (sym (append-nil t)) }

pub more_listed : {o x y : Output} {b s : List ℕ} {i : ℕ} → Listed o b i x → s ≡ part_line (name_at b i) (offset_at b i) (size_at b i) → length s ≤ 64
    → ((t : List ℕ) → x ≡ output_of t → y ≡ output_of (t ++ s)) → y.len ≡ x.len + length s → Listed o b (i + 1) y
unfolding part_lines
more_listed {b = b} {s = s} {i = i} l e k put n =
    let h = l.short in
    record {
      short = omega arith;
      holds = λ t q. rw (add-one, ← e) (put _ (l.holds t q) ∙ ap output_of (append_assoc t (part_lines b i) s));
    }

-- ---- what is printed
module _ (b : List ℕ) where
  pub too_long_lem : 65536 < length b → too_long ≡ inspected b
  unfolding inspected
  too_long_lem h = rw (lt-leb _ _ h)

  module _ (h : length b ≤ 65536) {w : Result ContainerOpening Refusal} (e : w ≡ container_opening_of 1 b) where
    pub prints_refusal : {r : Refusal} → w ≡ Err r → refused_line r.number r.place ≡ inspected b
    unfolding inspected printed_at printed_if
    prints_refusal r = rw (le-leb _ _ h, opening_refused 1 b e r)

    module _ {o : ContainerOpening} (a : w ≡ Ok o) where
      pub table_passed : table_judged b ≡ Accepted
      table_passed = (before_told 1 b (opened_told 1 b (opening_accepted 1 b e a)).0).table

      pub prints_table : accepted_line o.file_edition o.parts ++ part_lines b (count_of b) ≡ inspected b
      unfolding inspected printed_at printed_if
      prints_table = rw (le-leb _ _ h, opening_accepted 1 b e a, opening_parts 1 b e a, opening_edition 1 b e a)
