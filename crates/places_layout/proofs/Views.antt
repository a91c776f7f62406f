-- Views, lengths and the bytes of sections by a record, from what the code looks at. Of any record and any bytes.
-- Assumes nothing.
use Rattle.std.specs.Prelude.{None, Option, Some, Result, Err}
use Prim.Native.Nat.{ℕ, ◌+◌, ◌*◌, ◌≤◌, ◌<◌}
use mathlib.Core.Path.{◌≡◌, refl, sym, ◌∙◌, ap}
use mathlib.Core.Bool.{Bool, true, false, ◌&&◌}
use mathlib.Core.List.{List, []}
use mathlib.Core.Logic.{◌⊎◌, ⊎_elim}
use native.Mathlib.Omega.{arith}
use native.Mathlib.Nat.{add-zero}
use lib.Dec.{leb}
use lib.ListN.{length, get_or, take, drop}
use lib.Seq.{take-take}
use borrow.Author.Tests.{le-leb, lt-leb, lt-ltb, le-ltb}
use Rattle.constants.specs.Edition.{size_of}
use Rattle.constants.proofs.Editions.{size_last}
use Rattle.utf8_layout.specs.Sequence.{code_points}
use Rattle.wire.specs.Choice.{choose}
use Rattle.wire.specs.Number.{u32_at}
use Rattle.wire.specs.Verdict.{check, Refused}
use Rattle.wire.specs.declared.Refusal.{Refusal}
use Rattle.psv0_layout.specs.Answers.{field_of, bytes_of, lengths_of, points_in, points_of, question_of, SpanShows}
use Rattle.psv0_layout.specs.Field.{sum, name_offset_of, index_reference_of, row_count}
use Rattle.psv0_layout.specs.Parts.{accepted_span, refused_with}
use Rattle.psv0_layout.specs.Reference.{string_good, string_at, index_good, index_total, array_at}
use Rattle.psv0_layout.specs.Shown.{number, view, Question, stage_union, element_string, element_points, element_array, mask, entry_name, entry_points, resource_count, string_bytes, index_count, element_count, needs, set_if, value}
use Rattle.psv0_layout.specs.declared.ListLengths.{ListLengths}
use Rattle.psv0_layout.specs.declared.Span.{Span}
use Rattle.psv0_layout.specs.declared.View.{View}
use Rattle.psv0_layout.specs.declared.View.TheVariants.{StageUnion, ElementString, ElementArray, EntryName, Mask}
use Rattle.psv0_layout.proofs.Positions.{part_byte, part_u32}
use Rattle.psv0_layout.proofs.References.{string_inside, string_is}
use Rattle.psv0_layout.proofs.Spans.{nothing_shows, refused_shows, whole_shows, stretch_length, string_shows, array_shows}
use Rattle.places_layout.specs.Answers.{shown_by, lengths_by, ViewBy}
use Rattle.places_layout.specs.Parts.{StretchShows, TestShows, StringShows, ArrayShows}
use Rattle.places_layout.specs.Read.{body_by, seen_by, Source, a_length, source_of, is_there, readable, value_by, Answer, given, refusal, answered_from, answered_by}
use Rattle.places_layout.specs.declared.SectionPlaces.{SectionPlaces}
use Rattle.places_layout.proofs.Calls.{answered_as, element_verdict, element_refuses, element_bytes, there, of_element_lem, row_is}
use Rattle.places_layout.proofs.Standing.{too_early, not_there, outside}

-- ---- stretches
module _ (b : List ℕ) (at n : ℕ) where
  pub stretch_inside : leb (at + n) (length b) ≡ true → at + n ≤ length b → StretchShows b at n (accepted_span at n None)
  stretch_inside t h = rw t (whole_shows b (take n (drop at b)) at n refl h)

  pub stretch_outside : leb (at + n) (length b) ≡ false → StretchShows b at n (refused_with 29 0)
  stretch_outside t = rw t (refused_shows b 29 0)

  -- the string at a good reference o into the table, and one that isn't good
  pub string_found : (o m c : ℕ) → leb (at + n) (length b) ≡ true → at + n ≤ length b → string_good (take n (drop at b)) o ≡ true
      → m ≡ length (string_at (take n (drop at b)) o) → c ≡ code_points (string_at (take n (drop at b)) o)
      → StringShows b at n o (accepted_span (at + o) m (Some c))
  unfolding check
  string_found o m c t h g e q =
      let table = take n (drop at b) in
      let (i, r) = string_is table o m e (omega (arith, string_inside table o g)) in
      rw (t, g, q) (string_shows b table at n refl h o m (Some (code_points (string_at table o))) i r)

  pub string_fits : (o m : ℕ) → at + n ≤ length b → string_good (take n (drop at b)) o ≡ true → m ≡ length (string_at (take n (drop at b)) o)
      → at + o + m ≤ length b
  string_fits o m h g e =
      let table = take n (drop at b) in
      let (i, r) = string_is table o m e (omega (arith, string_inside table o g)) in
      let l = stretch_length b table at n refl h in
      omega arith

  pub no_string : (o : ℕ) → (leb (at + n) (length b) && string_good (take n (drop at b)) o) ≡ false → StringShows b at n o (refused_with 29 0)
  unfolding check
  no_string o t = rw t (refused_shows b 29 0)

-- some rows of numbers from a good reference on, and one that isn't good
module _ (b : List ℕ) (at n i r : ℕ) where
  total : at + n * 4 ≤ length b → index_total (take (n * 4) (drop at b)) ≡ n
  total h = let l = stretch_length b _ at (n * 4) refl h in omega arith

  pub array_found : leb (at + n * 4) (length b) ≡ true → at + n * 4 ≤ length b → i + r ≤ n → ArrayShows b at n i r (accepted_span (at + i * 4) (r * 4) None)
  unfolding check
  array_found t h l =
      let g : index_good (take (n * 4) (drop at b)) i r ≡ true = unfold index_good in rw (total h) (le-leb _ _ l) in
      rw (t, g) (array_shows b (take (n * 4) (drop at b)) at (n * 4) refl h i r g)

  pub array_past : leb (at + n * 4) (length b) ≡ true → at + n * 4 ≤ length b → n < i + r → ArrayShows b at n i r (refused_with 29 0)
  unfolding check
  array_past t h l =
      let g : index_good (take (n * 4) (drop at b)) i r ≡ false = unfold index_good in rw (total h) (lt-leb _ _ l) in
      rw (t, g) (refused_shows b 29 0)

  pub array_outside : leb (at + n * 4) (length b) ≡ false → ArrayShows b at n i r (refused_with 29 0)
  unfolding check
  array_outside t = rw t (refused_shows b 29 0)

-- ---- a view by what its question is answered with
module _ (p : SectionPlaces) (b : List ℕ) where
  view_as : (v : View) (a : Answer) (c : Option ℕ) (s : Result Span Refusal) → answered_by p b (question_of v) ≡ a → points_of v (shown_by p b) ≡ c
      → SpanShows b a.verdict (bytes_of a.value) c s → ViewBy p b v s
  unfolding shown_by
  view_as v a c s e f h =
      let verdict : (answered_by p b (question_of v)).verdict ≡ a.verdict = ap (λ (x : Answer). x.verdict) e in
      let shown : shown_by p b (question_of v) ≡ a.value = ap (λ (x : Answer). x.value) e in
      rw (verdict, shown, f) h

  -- and a string by its two
  module _ (v : View) (q : Question) (points : points_of v (shown_by p b) ≡ points_in (shown_by p b q)) where
    string_as : (t : Bool) (l : List ℕ) (n : ℕ) (s : Result Span Refusal) → answered_by p b (question_of v) ≡ choose t (given (view l)) (refusal 29)
        → answered_by p b q ≡ choose t (given (number n)) (refusal 29) → TestShows b t l (Some n) s → ViewBy p b v s
    unfolding shown_by check
    string_as t l n s e f h = view_as v _ _ s e (points ∙ ap (λ (a : Answer). points_in a.value) f) (go t h)
      where
        go : (u : Bool) → TestShows b u l (Some n) s
            → SpanShows b (choose u (given (view l)) (refusal 29)).verdict (bytes_of (choose u (given (view l)) (refusal 29)).value)
            (points_in (choose u (given (number n)) (refusal 29)).value) s
        go true k = k
        go false k = k

    refused_as : (n : ℕ) (s : Result Span Refusal) → answered_by p b (question_of v) ≡ refusal n → answered_by p b q ≡ refusal n → s ≡ refused_with n 0 → ViewBy p b v s
    unfolding shown_by
    refused_as n s e f k = view_as v _ _ s e (points ∙ ap (λ (a : Answer). points_in a.value) f) (rw k (refused_shows b n 0))

  -- ---- what element i refers to
  module _ (i : ℕ) (s : Result Span Refusal) where
    -- where the element itself is refused
    module _ {r : Refusal} (v : element_verdict p b i ≡ Refused r.number r.place) (k : s ≡ Err r) where
      pub string_refused : ViewBy p b (ElementString i) s
      unfolding source_of is_there readable shown_by
      string_refused =
          view_as (ElementString i) _ _ s (element_refuses p b i (element_string i) refl _ _ refl refl v)
          (ap (λ (a : Answer). points_in a.value) (element_refuses p b i (element_points i) refl _ _ refl refl v)) (nothing_shows b k refl)

      pub array_refused : ViewBy p b (ElementArray i) s
      unfolding source_of is_there readable
      array_refused = view_as (ElementArray i) _ None s (element_refuses p b i (element_array i) refl _ _ refl refl v) refl (nothing_shows b k refl)

    module _ (one : 1 ≤ p.edition) (l : i < p.element_count) where
      abbrev element_inside : Bool
      element_inside = leb (p.elements + i * p.element_size + 16) (length b)

      body_row : get_or (body_by p b).elements i [] ≡ element_bytes p b i
      unfolding seen_by
      body_row = row_is p b i one l

      pub element_string_read : element_inside ≡ true → StringShows b p.strings p.string_bytes (u32_at b (p.elements + i * p.element_size)) s
          → ViewBy p b (ElementString i) s
      unfolding source_of is_there readable value_by value body_by seen_by
      element_string_read t h =
          let table = take p.string_bytes (drop p.strings b) in
          let at = p.elements + i * p.element_size in
          let name : name_offset_of (get_or (body_by p b).elements i []) ≡ u32_at b at =
          rw body_row (part_u32 b at 16 0 (omega arith) ∙ rw (add-zero at)) in
          let test : (element_inside && leb (p.strings + p.string_bytes) (length b) && string_good table (name_offset_of (get_or (body_by p b).elements i [])))
          ≡ (leb (p.strings + p.string_bytes) (length b) && string_good table (u32_at b at)) = rw (t, name) in
          string_as (ElementString i) (element_points i) refl _ _ _ s
          (answered_as p b (element_string i) true _ _ one (there p b i one l) test (of_element_lem p b i one l _ ∙ ap (λ o. view (string_at table o)) name))
          (answered_as p b (element_points i) true _ _ one (there p b i one l) test (of_element_lem p b i one l _ ∙ ap (λ o. number (code_points (string_at table o))) name))
          h

      pub element_array_read : (c r : ℕ) → element_inside ≡ true → c ≡ u32_at b (p.elements + i * p.element_size + 4) → r ≡ get_or b (p.elements + i * p.element_size + 8) 0
          → ArrayShows b p.indices p.index_count c r s → ViewBy p b (ElementArray i) s
      unfolding source_of is_there readable value_by value body_by seen_by check
      element_array_read c r t ec er h =
          let table = take (p.index_count * 4) (drop p.indices b) in
          let at = p.elements + i * p.element_size in
          let first : index_reference_of (get_or (body_by p b).elements i []) ≡ c = rw body_row (part_u32 b at 16 4 (omega arith) ∙ sym ec) in
          let count : row_count (get_or (body_by p b).elements i []) ≡ r = rw body_row (part_byte b at 16 8 (omega arith) ∙ sym er) in
          let test : (element_inside && leb (p.indices + p.index_count * 4) (length b)
          && index_good table (index_reference_of (get_or (body_by p b).elements i [])) (row_count (get_or (body_by p b).elements i [])))
          ≡ (leb (p.indices + p.index_count * 4) (length b) && index_good table c r) = rw (t, first, count) in
          view_as (ElementArray i) _ None s
          (answered_as p b (element_array i) true _ (view (array_at table c r)) one (there p b i one l) test
          (of_element_lem p b i one l _ ∙ rw (first, count)))
          refl (go (leb (p.indices + p.index_count * 4) (length b) && index_good table c r) _ h)
        where
          go : (u : Bool) (x : List ℕ) → TestShows b u x None s
              → SpanShows b (choose u (given (view x)) (refusal 29)).verdict (bytes_of (choose u (given (view x)) (refusal 29)).value) None s
          go true x k = k
          go false x k = k

  -- ---- the entry name, whose reference stands in the runtime record
  pub no_entry : (s : Result Span Refusal) → p.edition < 3 → s ≡ refused_with 26 0 → ViewBy p b EntryName s
  no_entry s h k = refused_as EntryName entry_points refl 26 s (too_early p b entry_name h) (too_early p b entry_points h) k

  module _ (s : Result Span Refusal) (three : 3 ≤ p.edition) where
    abbrev record_inside : Bool
    record_inside = leb (p.runtime + 52) (length b)

    pub entry_outside : record_inside ≡ false → s ≡ refused_with 29 0 → ViewBy p b EntryName s
    unfolding source_of is_there readable
    entry_outside t k =
        let test : leb (p.runtime + size_of p.edition) (length b) ≡ false = rw (size_last p.edition three) t in
        refused_as EntryName entry_points refl 29 s (outside p b entry_name three refl (rw test)) (outside p b entry_points three refl (rw test)) k

    pub entry_read : record_inside ≡ true → StringShows b p.strings p.string_bytes (u32_at b (p.runtime + 48)) s → ViewBy p b EntryName s
    unfolding source_of is_there readable value_by value body_by seen_by
    entry_read t h =
        let table = take p.string_bytes (drop p.strings b) in
        let name : u32_at (take 52 (drop p.runtime b)) 48 ≡ u32_at b (p.runtime + 48) = part_u32 b p.runtime 52 48 (omega arith) in
        let inside : leb (p.runtime + size_of p.edition) (length b) ≡ true = rw (size_last p.edition three) t in
        let test : (leb (p.runtime + size_of p.edition) (length b) && leb (p.strings + p.string_bytes) (length b) && string_good table (u32_at (take 52 (drop p.runtime b)) 48))
        ≡ (leb (p.strings + p.string_bytes) (length b) && string_good table (u32_at b (p.runtime + 48))) = rw (inside, name) in
        string_as EntryName entry_points refl _ _ _ s
        (answered_as p b entry_name true _ _ three refl test (ap (λ o. view (string_at table o)) name))
        (answered_as p b entry_points true _ _ three refl test (ap (λ o. number (code_points (string_at table o))) name))
        h

  -- ---- the stage union
  module _ (s : Result Span Refusal) where
    pub union_outside : leb (p.runtime + size_of p.edition) (length b) ≡ false → s ≡ refused_with 29 0 → ViewBy p b StageUnion s
    unfolding source_of is_there readable
    union_outside t k = view_as StageUnion (refusal 29) None s (outside p b stage_union (omega arith) refl t) refl (rw k (refused_shows b 29 0))

    pub union_read : leb (p.runtime + size_of p.edition) (length b) ≡ true → p.runtime + 16 ≤ length b → s ≡ accepted_span p.runtime 16 None
        → ViewBy p b StageUnion s
    unfolding source_of is_there readable value_by value seen_by
    union_read t h k =
        let front : view (take 16 (take 24 (drop p.runtime b))) ≡ view (take 16 (drop p.runtime b)) =
        ap view (take-take 16 24 (drop p.runtime b) (omega arith)) in
        view_as StageUnion (given (view (take 16 (drop p.runtime b)))) None s
        (answered_as p b stage_union true true _ (omega arith) refl t front) refl
        (rw k (whole_shows b (take 16 (drop p.runtime b)) p.runtime 16 refl h))

  -- ---- masks
  module _ (m : ℕ) (s : Result Span Refusal) where
    pub no_mask : (p.edition < 1) ⊎ (11 ≤ m) → s ≡ refused_with 26 0 → ViewBy p b (Mask m) s
    unfolding source_of is_there
    no_mask h k =
        view_as (Mask m) (refusal 26) None s
        (⊎_elim (λ e. too_early p b (mask m) e) (λ e. not_there p b (mask m) (le-ltb m 11 e)) h) refl (rw k (refused_shows b 26 0))

    pub mask_read : 1 ≤ p.edition → m < 11 → StretchShows b (p.masks + sum (take m p.mask_words) * 4) (get_or p.mask_words m 0 * 4) s
        → ViewBy p b (Mask m) s
    unfolding source_of is_there readable value_by
    mask_read one l h = view_as (Mask m) _ None s (answered_as p b (mask m) true _ _ one (lt-ltb m 11 l) refl refl) refl h

-- ---- the lists' lengths
module _ (p : SectionPlaces) (b : List ℕ) where
  length_shown : (q : Question) (n : ℕ) → source_of p q ≡ a_length n → shown_by p b q ≡ set_if (leb (needs q) p.edition) (number n)
  unfolding shown_by answered_by answered_from is_there readable value_by
  length_shown q n e =
      ap (λ (t : Source). (choose (leb (needs q) p.edition) (answered_from p b t (seen_by p b (needs q)) (value q (seen_by p b (needs q)))) (refusal 26)).value) e
      ∙ go (leb (needs q) p.edition)
    where
      go : (s : Bool) → (choose s (given (number n)) (refusal 26)).value ≡ set_if s (number n)
      go true = refl
      go false = refl

  pub lengths_read : (x : ListLengths)
      → x
      ≡ record {
        resources = field_of (set_if (leb 0 p.edition) (number p.resource_count));
        strings = field_of (set_if (leb 1 p.edition) (number p.string_bytes));
        indices = field_of (set_if (leb 1 p.edition) (number p.index_count));
        elements = field_of (set_if (leb 1 p.edition) (number p.element_count));
      }
      → x ≡ lengths_by p b
  unfolding lengths_by lengths_of source_of
  lengths_read x h =
      h
      ∙ sym
      (λ j.
      record {
        resources = field_of (length_shown resource_count _ refl j);
        strings = field_of (length_shown string_bytes _ refl j);
        indices = field_of (length_shown index_count _ refl j);
        elements = field_of (length_shown element_count _ refl j);
      })
