-- Every string that a reading shows is well formed, and the code points that stand beside it are its own.
-- Assumes nothing.
use Prim.Native.Nat.{ℕ, ◌≤◌, ◌<◌}
use mathlib.Core.Path.{◌≡◌}
use mathlib.Core.Bool.{true}
use mathlib.Core.List.{List, []}
use lib.ListN.{length, get_or}
use borrow.Author.Tests.{le-leb, lt-ltb}
use Rattle.utf8_layout.specs.Sequence.{well_formed, code_points}
use Rattle.wire.specs.Number.{u32_at}
use Rattle.wire.specs.Verdict.{Accepted}
use Rattle.psv0_layout.specs.Field.{element_total, name_offset_of}
use Rattle.psv0_layout.specs.Judged.{opened}
use Rattle.psv0_layout.specs.Layout.{guide_of, sections, seen, edition_read_of}
use Rattle.psv0_layout.specs.Reference.{string_at}
use Rattle.psv0_layout.specs.Shown.{Value, number, view, element_string, element_points, entry_name, entry_points, value, shown_at}
use Rattle.psv0_layout.proofs.Opened.{element_good, entry_good}
use Rattle.psv0_layout.proofs.Positions.{elements_length}
use Rattle.psv0_layout.proofs.References.{good_parts}

-- a string that is shown: the bytes, well formed, and their code points
pub record Told (string points : Value) : Type 0 where
  pub bytes : List ℕ
  pub shown : string ≡ view bytes
  pub well : well_formed bytes ≡ true
  pub count : points ≡ number (code_points bytes)

module _ (k : ℕ) (d : List ℕ) (o : opened k d ≡ Accepted) where
  pub element_told : 1 ≤ edition_read_of k d → (i : ℕ) → i < element_total (guide_of d)
      → Told (shown_at (edition_read_of k d) d (element_string i)) (shown_at (edition_read_of k d) d (element_points i))
  unfolding shown_at value
  element_told h i l =
      let t = le-leb 1 (edition_read_of k d) h in
      let z = lt-ltb i (length (seen 1 (sections d)).body.elements) (rw (elements_length d) l) in
      record {
        bytes = string_at (seen 1 (sections d)).body.strings (name_offset_of (get_or (seen 1 (sections d)).body.elements i []));
        shown = simp (t, z);
        well = (good_parts _ _ (element_good k d o h i l).0).1;
        count = simp (t, z);
      }

  pub entry_told : 3 ≤ edition_read_of k d → Told (shown_at (edition_read_of k d) d entry_name) (shown_at (edition_read_of k d) d entry_points)
  unfolding shown_at value
  entry_told h =
      let t = le-leb 3 (edition_read_of k d) h in
      record {
        bytes = string_at (seen 3 (sections d)).body.strings (u32_at (seen 3 (sections d)).runtime 48);
        shown = simp t;
        well = (good_parts _ _ (entry_good k d o h)).1;
        count = simp t;
      }
