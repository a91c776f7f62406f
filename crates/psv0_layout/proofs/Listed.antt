-- The elements' strings, from the bytes that a reading hands out for writing again: with these, many strings cost one opening.
-- Assumes nothing.
use Prim.Native.Nat.{ℕ, suc, ◌*◌, ◌/◌, ◌≤◌, ◌<◌}
use mathlib.Core.Path.{◌≡◌}
use mathlib.Core.List.{List, []}
use native.Mathlib.Omega.{arith}
use native.Mathlib.Nat.{add-zero, mul-div_cancel_left}
use lib.ListN.{length, get_or, length-take, length-drop}
use borrow.Author.Tests.{le-leb, lt-ltb}
use Rattle.wire.specs.Number.{u32_at}
use Rattle.wire.specs.Verdict.{Accepted}
use Rattle.psv0_layout.specs.Field.{element_total}
use Rattle.psv0_layout.specs.Handed.{string_table, element_records, handed}
use Rattle.psv0_layout.specs.Judged.{opened}
use Rattle.psv0_layout.specs.Layout.{Records, rows, guide_of, sections, body_of, seen, edition_read_of}
use Rattle.psv0_layout.specs.Reference.{string_at}
use Rattle.psv0_layout.specs.Shown.{view, element_string, value, shown_at}
use Rattle.psv0_layout.proofs.Layouts.{WholeRecords, none, some, WholeBody}
use Rattle.psv0_layout.proofs.Opened.{length_most, body_accepted}
use Rattle.psv0_layout.proofs.Positions.{part_u32, bytes_at, rows_length, rows_at, elements_at}
use Rattle.psv0_layout.proofs.Wholes.{count_small, body_whole}

-- the first number of record i, where all records are whole: they are as far apart as their bytes go round
record_number : {t : Records} → WholeRecords t → (i : ℕ) → i < t.count
    → u32_at (get_or (rows 16 t.count t.stride t.bytes) i []) 0 ≡ u32_at t.bytes (i * (length t.bytes / t.count))
record_number none i h = absurd (omega arith)
record_number (some n s b four least small e) i h =
    let q : length b / suc n ≡ s = rw e (mul-div_cancel_left s (omega arith)) in
    rw (rows_at 16 (suc n) s b i h, q, part_u32 b (i * s) 16 0 (omega arith), add-zero)

module _ (k : ℕ) (d : List ℕ) (o : opened k d ≡ Accepted) (h : 1 ≤ edition_read_of k d) where
  whole : WholeBody (sections d)
  whole = body_whole d (length_most k d o) (body_accepted k d o h)

  count_is : (sections d).elements.count ≡ element_total (guide_of d)
  unfolding sections
  count_is = whole.counts

  -- there are fewer elements than a number of four bytes can say
  pub total_short : element_total (guide_of d) < 4294967296
  total_short = rw (← count_is) (count_small whole.elements (rw (elements_at d, bytes_at) (simp (length-take, length-drop) (omega (arith, length_most k d o)))))

  pub handed_string : (i : ℕ) → i < element_total (guide_of d)
      → shown_at (edition_read_of k d) d (element_string i)
      ≡ view (string_at (handed (edition_read_of k d) d string_table)
      (u32_at (handed (edition_read_of k d) d element_records) (i * (length (handed (edition_read_of k d) d element_records) / element_total (guide_of d)))))
  unfolding shown_at value seen body_of handed
  handed_string i l =
      let t = le-leb 1 (edition_read_of k d) h in
      let z = lt-ltb i (length (rows 16 (sections d).elements.count (sections d).elements.stride (sections d).elements.bytes)) (rw (rows_length, count_is) l) in
      let r = record_number whole.elements i (rw count_is l) in
      simp (t, z) (rw (← count_is, ← r))
