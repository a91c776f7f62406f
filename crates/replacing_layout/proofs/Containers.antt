-- A container with other PSV0 data: it opens, the other parts are as they were, and its record is that of the new data.
-- Assumes nothing.
use Rattle.std.specs.Prelude.{None, Option, Some}
use Prim.Native.Nat.{ℕ, ◌+◌, ◌-◌, ◌*◌, ◌≤◌, ◌<◌}
use mathlib.Core.Path.{◌≡◌, refl, sym, ◌∙◌, ap, subst}
use mathlib.Core.Bool.{true, true≢false}
use mathlib.Core.List.{List}
use native.Mathlib.Omega.{arith}
use lib.ListN.{length, get_or, take, drop}
use borrow.Author.Tests.{le-leb}
use Rattle.wire.specs.Number.{u32_at, Bytes}
use Rattle.wire.specs.Verdict.{Accepted}
use Rattle.part_table_layout.specs.Lookup.{find}
use Rattle.part_table_layout.specs.Table.{count_of, offset_at, size_at, end_at, table_judged}
use Rattle.part_table_layout.proofs.Accepted.{data_length, part_inside, part_after_table}
use Rattle.part_table_layout.proofs.Lookups.{Named, find_told}
use Rattle.psv0_layout.specs.Judged.{opened}
use Rattle.psv0_layout.specs.Layout.{edition_read_of}
use Rattle.psv0_layout.specs.Shown.{Question, answered}
use Rattle.psv0_layout.proofs.Editions.{newer}
use Rattle.psv0_layout.proofs.Positions.{part_byte}
use Rattle.container_layout.specs.Container.{psv0, is_there, start_found, psv_of, before_psv, container_judged, container_answered}
use Rattle.container_layout.proofs.Containers.{SameParts, before_told, before_is, opened_told, opens_alone, shows_alone, find_same, before_again}
use Rattle.container_layout.specs.Placed.{container_places}
use Rattle.places_layout.specs.Placed.{places_at}
use Rattle.replacing_layout.specs.Replaced.{moved, replaced_at, replaced}
use Rattle.replacing_layout.proofs.Again.{replaced_again}
use Rattle.replacing_layout.proofs.Places.{at_tail, front_alike, head_alike, names_alike, replaced_length, count_same, offset_before, file_size_lem, offset_after, own_size, own_data}
use Rattle.replacing_layout.proofs.Tables.{name_same, data_same, table_accepts}

-- "keeps every byte outside it but the sizes and offsets, and moves what follows": r is b with the data new in part i
pub record KeepsBytes (b : List ℕ) (i : ℕ) (new r : List ℕ) : Type 0 where
  -- magic, digest, version
  pub front : (x : ℕ) → x < 24 → get_or r x 0 ≡ get_or b x 0
  -- the part count and the offsets up to part i's
  pub head : (x : ℕ) → 28 ≤ x → x < 36 + 4 * i → get_or r x 0 ≡ get_or b x 0
  -- from the end of the offsets to part i's name
  pub before : (x : ℕ) → 32 + 4 * count_of b ≤ x → x < offset_at b i + 4 → get_or r x 0 ≡ get_or b x 0
  -- what follows the data, and nothing else
  pub follows : drop (offset_at b i + 8 + length new) r ≡ drop (end_at b i) b
  -- the fields that change
  pub file_size : u32_at r 24 ≡ length r
  pub offsets : (k : ℕ) → i < k → k < count_of b → offset_at r k ≡ moved b i (length new) (offset_at b k)
  pub size : size_at r i ≡ length new

-- what replacing keeps: r is b with the PSV0 data new
pub record Replaces (b new r : List ℕ) : Type 0 where
  pub long : length r + length (psv_of b) ≡ length b + length new
  -- it passes 1 to 9, with the same names in order, and every other part has the data that it had
  pub same : SameParts b r
  -- the PSV0 data are the new ones, and start where the old ones did
  pub psv : psv_of r ≡ new
  pub place : start_found r (find r psv0) ≡ start_found b (find b psv0)
  pub outside : (i : ℕ) → find b psv0 ≡ Some i → KeepsBytes b i new r

module _ (b new : List ℕ) (i : ℕ) (t : table_judged b ≡ Accepted) (f : find b psv0 ≡ Some i)
    (short : moved b i (length new) (length b) ≤ 16777216) where
  abbrev r : List ℕ
  r = replaced_at b i new

  told : Named b psv0 i
  told = find_told b psv0 i f

  byte_alike : (p w : ℕ) → take w (drop p r) ≡ take w (drop p b) → (x : ℕ) → p ≤ x → x < p + w → get_or r x 0 ≡ get_or b x 0
  byte_alike p w e x h g =
      let z : p + (x - p) ≡ x = omega arith in
      let k : x - p < w = omega arith in
      rw (← z) (sym (part_byte r p w (x - p) k) ∙ ap (λ (l : List ℕ). get_or l (x - p) 0) e ∙ part_byte b p w (x - p) k)

  keeps_bytes : KeepsBytes b i new (replaced_at b i new)
  keeps_bytes =
      let l = told.listed in
      let n = replaced_length b i new t l in
      let a = part_after_table b t i l in
      record {
        front = λ x g. byte_alike 0 24 (front_alike b i new t l) x (omega arith) (omega arith);
        head = λ x h g. byte_alike 28 (8 + 4 * i) (head_alike b i new t l) x h (omega arith);
        before = λ x h g.
            byte_alike (32 + 4 * count_of b) (offset_at b i + 4 - (32 + 4 * count_of b)) (names_alike b i new t l) x h (omega arith);
        follows = at_tail b i new t l;
        file_size = file_size_lem b i new t l short ∙ sym n;
        offsets = offset_after b i new t l short;
        size = own_size b i new t l short;
      }

  same_parts : SameParts b (replaced_at b i new)
  same_parts =
      let l = told.listed in
      record {
        passes = table_accepts b i new t l short;
        counts = count_same b i new t l;
        names = name_same b i new t l short;
        others = λ k m d. data_same b i new t l short k m (λ e. d (rw e told.named));
      }

  replaces_at : Replaces b new (replaced_at b i new)
  unfolding psv_of
  replaces_at =
      let l = told.listed in
      let n = replaced_length b i new t l in
      let s = data_length b t i l in
      let a = own_data b i new t l short in
      let g : find r psv0 ≡ Some i = find_same b r same_parts psv0 ∙ f in
      let room = part_inside b t i l in
      record {
        long = rw (f, s, n) (omega arith);
        same = same_parts;
        psv = rw g a;
        place = rw (g, f) (ap (λ (x : ℕ). x + 8) (offset_before b i new t l i (omega arith)));
        outside = λ j e. let q : i ≡ j = cc in subst (λ (m : ℕ). KeepsBytes b m new r) q keeps_bytes;
      }

-- the place of the PSV0 part, where there is one
pub there : (f : Option ℕ) → is_there f ≡ true → (i : ℕ) × (f ≡ Some i)
there (Some i) e = (i, refl)
there None e = absurd (true≢false (sym e))

pub replaces : (b new : List ℕ) → table_judged b ≡ Accepted → is_there (find b psv0) ≡ true → length (replaced b new) ≤ 16777216
    → Replaces b new (replaced b new)
unfolding replaced
replaces b new t v short =
    let (i, e) = there (find b psv0) v in
    let n = replaced_length b i new t (find_told b psv0 i e).listed in
    rw e (replaces_at b new i t e (rw n at (rw e at short)))

-- ---- the opening of the result
module _ (b new r : List ℕ) (w : Replaces b new r) (k : ℕ) (o : container_judged k b ≡ Accepted) (j : ℕ) (few : j ≤ 3) where
  before : before_psv j r ≡ Accepted
  before = before_is j r (before_again b r w.same k j (le-leb j 3 few) (before_told k b (opened_told k b o).0))

  -- reader j opens the result as it opens the new data alone, and shows the same
  pub opens_new : container_judged j r ≡ opened j new
  opens_new = opens_alone j r before ∙ ap (opened j) w.psv

  pub shows_new : (q : Question) → container_answered j r q ≡ answered j new q
  shows_new q = shows_alone j r before q ∙ ap (λ (d : List ℕ). answered j d q) w.psv

  -- every reader opens it where reader 3 opens the new data
  pub opens_accepted : opened 3 new ≡ Accepted → container_judged j r ≡ Accepted
  opens_accepted a = opens_new ∙ (newer j 3 new few (omega arith)).opens a

-- "the record then equals that of a fresh opening": it is known from the place of the old part and the new data
pub places_new : (b new r : List ℕ) → Replaces b new r → (j : ℕ)
    → container_places j r ≡ places_at (start_found b (find b psv0)) (edition_read_of j new) new
unfolding container_places
places_new b new r w j = rw (w.place, w.psv)

-- ---- replacing by the data that are there
pub replaced_same : (b : List ℕ) → Bytes b → table_judged b ≡ Accepted → is_there (find b psv0) ≡ true → replaced b (psv_of b) ≡ b
unfolding replaced psv_of
replaced_same b bytes t v =
    let (i, e) = there (find b psv0) v in
    rw e (replaced_again b bytes i t (find_told b psv0 i e).listed)
