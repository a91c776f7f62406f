-- By a record that holds, question by question: 26 and lengths by the record, all that is needed lies inside, and the value is the reader's.
-- Assumes nothing.
use Prim.Native.Nat.{ℕ, ◌+◌, ◌*◌, ◌/◌, ◌≤◌, ◌<◌}
use mathlib.Core.Path.{◌≡◌, refl, sym, ◌∙◌, ap}
use mathlib.Core.Bool.{Bool, true, false, ◌&&◌, true≢false}
use mathlib.Core.List.{List, []}
use native.Mathlib.Omega.{arith}
use native.Mathlib.Nat.{le_trans, mul-le-mul_right, suc-mul}
use lib.Dec.{leb, ltb}
use lib.ListN.{length, get_or, take, drop, length-drop, get_or-eq_default}
use lib.Seq.{get_or-take, length-take-le}
use borrow.Author.Tests.{le-leb, lt-leb, leb-true, ltb-true, ltb-false}
use Rattle.constants.specs.Edition.{size_of}
use Rattle.constants.proofs.Editions.{size_mono}
use Rattle.utf8_layout.specs.Sequence.{code_points}
use Rattle.wire.specs.Choice.{choose}
use Rattle.wire.specs.Number.{u32_at}
use Rattle.wire.specs.Verdict.{◌then◌, check, Accepted}
use Rattle.wire.proofs.Choices.{both}
use Rattle.psv0_layout.specs.Field.{stage, vertex_count, vertex_stage, patch_byte, patch_stage, topology, mesh_stage, thread_count, thread_stage, mask_words_of, sum, name_offset_of, index_reference_of, row_count}
use Rattle.psv0_layout.specs.Layout.{Sections, Seen, rows, body_of, resource_width, seen}
use Rattle.psv0_layout.specs.Reference.{string_good, string_at, index_good, array_at}
use Rattle.psv0_layout.specs.Shown.{Value, unset, number, view, Question, stage_union, least_lanes, most_lanes, stage_number, uses_view, max_vertex_count, patch_vector_count, mesh_topology, input_elements, output_elements, patch_elements, input_vector_count, output_vector_count, threads, entry_name_offset_of, resource_field, element_field, element_string, element_points, element_array, mask, entry_name, entry_points, resource_count, string_bytes, index_count, element_count, needs, set_if, value, is_set, queried}
use Rattle.psv0_layout.proofs.Masks.{sum_inside}
use Rattle.psv0_layout.proofs.Positions.{rows_length, rows_at, part_part}
use Rattle.psv0_layout.proofs.Wholes.{width_fits}
use Rattle.places_layout.specs.Read.{body_by, seen_by, Source, in_runtime, of_stage, in_resource, in_element, a_string, an_array, a_mask, the_name, a_length, source_of, is_there, readable, value_by, Answer, given, refusal, answered_from, answered_by}
use Rattle.places_layout.specs.declared.SectionPlaces.{SectionPlaces}
use Rattle.places_layout.proofs.Holding.{HoldsBody, Holds, Good, body_same, seen_same}

-- what a query answers beside a value, where the opening accepts
abbrev pub answer_of : Value → Answer
answer_of y = record { verdict = queried Accepted y; value = y }

-- the test t is true where the value y is set, the test g then too, and x is then y
close : (t g : Bool) (x y : Value) → is_set y ≡ t → (t ≡ true → g ≡ true) → (t ≡ true → x ≡ y)
    → choose t (choose g (given x) (refusal 29)) (refusal 26) ≡ answer_of y
unfolding queried ◌then◌ check
close true g x unset e f h = absurd (true≢false (sym e))
close true g x (number n) e f h = rw (f refl, h refl)
close true g x (view l) e f h = rw (f refl, h refl)
close false g x unset e f h = refl
close false g x (number n) e f h = absurd (true≢false e)
close false g x (view l) e f h = absurd (true≢false e)

set_if_lem : (t : Bool) (x : Value) → is_set x ≡ true → is_set (set_if t x) ≡ t
set_if_lem true x e = e
set_if_lem false x e = refl

set_both : (s t u : Bool) (n : ℕ) → s ≡ u → is_set (set_if s (set_if t (number n))) ≡ (u && t)
set_both true t u n e = rw (← e) (set_if_lem t (number n) refl)
set_both false t u n e = rw (← e)

and_false : (s : Bool) → (s && false) ≡ false
and_false true = refl
and_false false = refl

-- record i of n records of z bytes ends inside
row_end_lem : (n z i w at m : ℕ) → i < n → w ≤ z → at + n * z ≤ m → at + i * z + w ≤ m
row_end_lem n z i w at m h l f = omega (arith, mul-le-mul_right z h, suc-mul i z)

part_length : (b : List ℕ) (at n : ℕ) → at + n ≤ length b → length (take n (drop at b)) ≡ n
part_length b at n h = length-take-le n (drop at b) (rw length-drop (omega arith))

-- what a source gives to a question
abbrev sourced : SectionPlaces → List ℕ → Source → Question → Answer
sourced p b t q = answered_from p b t (seen_by p b (needs q)) (value q (seen_by p b (needs q)))

-- it is the answer with the value y
from_source : (p : SectionPlaces) (b : List ℕ) (t : Source) (q : Question) (y : Value) → is_set y ≡ is_there p t → (is_there p t ≡ true → readable p b t ≡ true)
    → (is_there p t ≡ true → value_by p b t (seen_by p b (needs q)) (value q (seen_by p b (needs q))) ≡ y) → sourced p b t q ≡ answer_of y
unfolding answered_from
from_source p b t q y e f h = close (is_there p t) (readable p b t) _ y e f h

module _ {p : SectionPlaces} {b : List ℕ} {er : ℕ} {s : Sections} (h : Holds p b er s) where
  runtime_fits_lem : p.runtime + size_of p.edition ≤ length b
  runtime_fits_lem = rw h.edition h.runtime_fits

  -- ---- the runtime record
  module _ (q : Question) (l : needs q ≤ er) where
    runtime_answer : (t : Bool) → is_set (value q (seen (needs q) s)) ≡ t → sourced p b (in_runtime t) q ≡ answer_of (value q (seen (needs q) s))
    unfolding is_there readable value_by
    runtime_answer t e = from_source p b (in_runtime t) q _ e (λ z. le-leb _ _ runtime_fits_lem) (λ z. ap (value q) (seen_same h (needs q) l))

    -- a number f that stages have, by the test u of the stage
    stage_answer : 1 ≤ needs q → (u : ℕ → Bool) (f : List ℕ → ℕ) → value q (seen (needs q) s) ≡ set_if (u (stage (seen (needs q) s).runtime)) (number (f (seen (needs q) s).runtime))
        → sourced p b (of_stage (u p.stage) f) q ≡ answer_of (value q (seen (needs q) s))
    unfolding is_there readable value_by
    stage_answer one u f e =
        let same : stage (seen (needs q) s).runtime ≡ p.stage =
        unfold seen in
        let m = size_mono 1 (needs q) one in
        get_or-take (size_of (needs q)) s.runtime 24 0 (omega arith)
        ∙ sym (get_or-take (size_of 1) s.runtime 24 0 (omega arith))
        ∙ sym (h.body (le_trans one l)).stage in
        rw (e, same)
        (from_source p b (of_stage (u p.stage) f) q _ (set_if_lem (u p.stage) (number _) refl) (λ z. le-leb _ _ runtime_fits_lem)
        (λ z. rw z (ap (λ (v : Seen). number (f v.runtime)) (seen_same h (needs q) l))))

  -- ---- resource records
  module _ (i f : ℕ) where
    abbrev e : ℕ
    e = needs (resource_field i f)

    abbrev w : ℕ
    w = resource_width e s.resources.stride

    abbrev rs : List (List ℕ)
    rs = rows w s.resources.count s.resources.stride s.resources.bytes

    enough : 1 ≤ s.resources.count → 16 ≤ s.resources.stride
    enough c = rw h.stride at (h.enough (rw h.count c))

    all_bytes : length s.resources.bytes ≡ s.resources.count * s.resources.stride
    all_bytes = rw (← h.resources, ← h.count, ← h.stride) (part_length b p.resources _ h.resources_fit)

    row_there : i < s.resources.count → length (get_or rs i []) ≡ w
    row_there l =
        let fits = width_fits e s.resources.stride (enough (omega arith)) in
        let k = row_end_lem s.resources.count s.resources.stride i w 0 (length s.resources.bytes) l fits (omega (arith, all_bytes)) in
        rw (rows_at w _ _ s.resources.bytes i l) (length-take-le w _ (rw length-drop (omega arith)))

    row_test : (ltb f 6 && leb (f * 4 + 4) (length (get_or rs i []))) ≡ (ltb i s.resources.count && (ltb f 6 && leb (f * 4 + 4) w))
    row_test = go (ltb i s.resources.count) refl
      where
        go : (t : Bool) → ltb i s.resources.count ≡ t → (ltb f 6 && leb (f * 4 + 4) (length (get_or rs i []))) ≡ (t && (ltb f 6 && leb (f * 4 + 4) w))
        go true c = rw (row_there (ltb-true _ _ c))
        go false c =
            let n : length rs ≤ i = rw rows_length (ltb-false _ _ c) in
            let z : get_or rs i [] ≡ [] = get_or-eq_default rs [] n in
            rw (z, lt-leb (f * 4 + 4) 0 (omega arith)) (and_false (ltb f 6))

    resource_answer : e ≤ er → sourced p b (in_resource i f) (resource_field i f) ≡ answer_of (value (resource_field i f) (seen e s))
    unfolding is_there readable value_by value seen
    resource_answer l =
        let there : (ltb f 6 && leb (f * 4 + 4) (length (get_or rs i []))) ≡ is_there p (in_resource i f) = rw (h.count, h.stride) row_test in
        from_source p b (in_resource i f) (resource_field i f) (value (resource_field i f) (seen e s)) (set_if_lem _ (number _) refl ∙ there)
        (λ t.
        let k : i < p.resource_count = ltb-true _ _ (both (ltb i p.resource_count) _ t).0 in
        let n : resource_width p.edition p.resource_size ≤ p.resource_size = width_fits p.edition _ (h.enough (omega arith)) in
        le-leb _ _ (row_end_lem p.resource_count p.resource_size i _ p.resources (length b) k n h.resources_fit))
        (λ t. ap (value (resource_field i f)) (seen_same h e l))

  -- ---- lists' lengths
  length_answer : (q : Question) (n m : ℕ) → n ≡ m → sourced p b (a_length n) q ≡ answer_of (number m)
  unfolding is_there readable value_by
  length_answer q n m e = from_source p b (a_length n) q (number m) refl (λ z. refl) (λ z. ap number e)

  -- ---- sections 3 to 6
  module _ (one : 1 ≤ er) where
    abbrev g : HoldsBody p b s
    g = h.body one

    elements_long : length (seen 1 s).body.elements ≡ p.element_count
    unfolding seen body_of
    elements_long = rw rows_length (sym g.count)

    strings_long : p.string_bytes ≡ length s.strings
    strings_long = sym (rw g.strings at (part_length b p.strings _ g.strings_fit))

    indices_long : p.index_count ≡ length s.indices / 4
    indices_long = let e = rw g.indices at (part_length b p.indices _ g.indices_fit) in omega arith

    module _ (i : ℕ) where
      element_fits : i < p.element_count → p.elements + i * p.element_size + 16 ≤ length b
      element_fits l = row_end_lem p.element_count p.element_size i 16 p.elements (length b) l (g.enough (omega arith)) g.elements_fit

      there : (x : Value) → is_set x ≡ true → is_set (set_if (ltb i (length (seen 1 s).body.elements)) x) ≡ ltb i p.element_count
      there x e = rw elements_long (set_if_lem _ x e)

      element_answer : (f : ℕ) → sourced p b (in_element i f) (element_field i f) ≡ answer_of (value (element_field i f) (seen 1 s))
      unfolding is_there readable value_by value
      element_answer f =
          from_source p b (in_element i f) (element_field i f) (value (element_field i f) (seen 1 s))
          (set_both (ltb i (length (seen 1 s).body.elements)) (ltb f 13) (ltb i p.element_count) _ (ap (ltb i) elements_long))
          (λ t. le-leb _ _ (element_fits (ltb-true _ _ (both (ltb i p.element_count) (ltb f 13) t).0)))
          (λ t. ap (value (element_field i f)) (seen_same h 1 one))

      -- what element i refers to is read by good references
      module _ (k : Good er s) where
        string_good_lem : ltb i p.element_count ≡ true → readable p b (a_string i) ≡ true
        unfolding readable
        string_good_lem t =
            let l : i < p.element_count = ltb-true _ _ t in
            let good : string_good (body_by p b).strings (name_offset_of (get_or (body_by p b).elements i [])) ≡ true =
            rw (body_same h one) (unfold body_of in k.names one i (rw g.count at l)) in
            simp (le-leb _ _ (element_fits l), le-leb _ _ g.strings_fit, good)

        string_answer : sourced p b (a_string i) (element_string i) ≡ answer_of (value (element_string i) (seen 1 s))
        unfolding is_there value_by value
        string_answer =
            from_source p b (a_string i) (element_string i) (value (element_string i) (seen 1 s))
            (there (view (string_at (seen 1 s).body.strings (name_offset_of (get_or (seen 1 s).body.elements i [])))) refl) string_good_lem
            (λ t. ap (value (element_string i)) (seen_same h 1 one))

        points_answer : sourced p b (a_string i) (element_points i) ≡ answer_of (value (element_points i) (seen 1 s))
        unfolding is_there value_by value
        points_answer =
            from_source p b (a_string i) (element_points i) (value (element_points i) (seen 1 s))
            (there (number (code_points (string_at (seen 1 s).body.strings (name_offset_of (get_or (seen 1 s).body.elements i []))))) refl) string_good_lem
            (λ t. ap (value (element_points i)) (seen_same h 1 one))

        array_answer : sourced p b (an_array i) (element_array i) ≡ answer_of (value (element_array i) (seen 1 s))
        unfolding is_there readable value_by value
        array_answer =
            from_source p b (an_array i) (element_array i) (value (element_array i) (seen 1 s))
            (there (view (array_at (seen 1 s).body.indices (index_reference_of (get_or (seen 1 s).body.elements i [])) (row_count (get_or (seen 1 s).body.elements i [])))) refl)
            (λ t.
            let l : i < p.element_count = ltb-true _ _ t in
            let good : index_good (body_by p b).indices (index_reference_of (get_or (body_by p b).elements i [])) (row_count (get_or (body_by p b).elements i [])) ≡ true =
            rw (body_same h one) (unfold body_of in k.arrays one i (rw g.count at l)) in
            simp (le-leb _ _ (element_fits l), le-leb _ _ g.indices_fit, good))
            (λ t. ap (value (element_array i)) (seen_same h 1 one))

    mask_answer : (m : ℕ) → sourced p b (a_mask m) (mask m) ≡ answer_of (value (mask m) (seen 1 s))
    unfolding is_there readable value_by value seen body_of
    mask_answer m =
        let n = sum_inside p.mask_words m in
        let fits = g.masks_fit in
        let same : take (get_or p.mask_words m 0 * 4) (drop (p.masks + sum (take m p.mask_words) * 4) b)
        ≡ take (get_or (mask_words_of (take 36 s.runtime)) m 0 * 4) (drop (sum (take m (mask_words_of (take 36 s.runtime))) * 4) s.masks) =
        sym (part_part b p.masks (sum p.mask_words * 4) (sum (take m p.mask_words) * 4) (get_or p.mask_words m 0 * 4) (omega arith))
        ∙ rw (g.masks, g.words) in
        let end : p.masks + sum (take m p.mask_words) * 4 + get_or p.mask_words m 0 * 4 ≤ length b = omega arith in
        from_source p b (a_mask m) (mask m) (value (mask m) (seen 1 s)) (set_if_lem (ltb m 11) (view _) refl) (λ t. le-leb _ _ end) (λ t. rw t (ap view same))

  -- ---- the entry name
  module _ (k : Good er s) (l : 3 ≤ er) where
    name_good_lem : readable p b the_name ≡ true
    unfolding readable
    name_good_lem =
        let one : 1 ≤ er = omega arith in
        let good : string_good (body_by p b).strings (u32_at (seen_by p b 3).runtime 48) ≡ true =
        rw (body_same h one, seen_same h 3 l) (unfold body_of seen in k.entry l) in
        simp (le-leb _ _ runtime_fits_lem, le-leb _ _ (h.body one).strings_fit, good)

    name_answer : (q : Question) → needs q ≡ 3 → is_set (value q (seen (needs q) s)) ≡ true → sourced p b the_name q ≡ answer_of (value q (seen (needs q) s))
    unfolding is_there value_by
    name_answer q n e = from_source p b the_name q _ e (λ t. name_good_lem) (λ t. ap (value q) (seen_same h (needs q) (rw n l)))

  -- ---- every question that the edition read reaches
  source_answer : Good er s → (q : Question) → needs q ≤ er → sourced p b (source_of p q) q ≡ answer_of (value q (seen (needs q) s))
  unfolding source_of value
  source_answer k stage_union l = runtime_answer stage_union l true refl
  source_answer k least_lanes l = runtime_answer least_lanes l true refl
  source_answer k most_lanes l = runtime_answer most_lanes l true refl
  source_answer k stage_number l = runtime_answer stage_number l true refl
  source_answer k uses_view l = runtime_answer uses_view l true refl
  source_answer k max_vertex_count l = stage_answer max_vertex_count l (omega arith) vertex_stage vertex_count refl
  source_answer k patch_vector_count l = stage_answer patch_vector_count l (omega arith) patch_stage patch_byte refl
  source_answer k mesh_topology l = stage_answer mesh_topology l (omega arith) mesh_stage topology refl
  source_answer k input_elements l = runtime_answer input_elements l true refl
  source_answer k output_elements l = runtime_answer output_elements l true refl
  source_answer k patch_elements l = runtime_answer patch_elements l true refl
  source_answer k input_vector_count l = runtime_answer input_vector_count l true refl
  source_answer k (output_vector_count i) l = runtime_answer (output_vector_count i) l (ltb i 4) (set_if_lem (ltb i 4) (number _) refl)
  source_answer k (threads i) l = stage_answer (threads i) l (omega arith) (λ n. ltb i 3 && thread_stage n) (thread_count i) refl
  source_answer k entry_name_offset_of l = runtime_answer entry_name_offset_of l true refl
  source_answer k (resource_field i f) l = resource_answer i f l
  source_answer k (element_field i f) l = element_answer l i f
  source_answer k (element_string i) l = string_answer l i k
  source_answer k (element_points i) l = points_answer l i k
  source_answer k (element_array i) l = array_answer l i k
  source_answer k (mask m) l = mask_answer l m
  source_answer k entry_name l = name_answer k l entry_name refl refl
  source_answer k entry_points l = name_answer k l entry_points refl refl
  source_answer k resource_count l = length_answer resource_count _ _ (unfold seen in rw rows_length h.count)
  source_answer k string_bytes l = length_answer string_bytes _ _ (unfold seen body_of in strings_long l)
  source_answer k index_count l = length_answer index_count _ _ (unfold seen body_of in indices_long l)
  source_answer k element_count l = length_answer element_count _ _ (sym (elements_long l))

  -- the record answers every question as a reading of the sections does
  pub answers_same : Good er s → (q : Question) → answered_by p b q ≡ answer_of (set_if (leb (needs q) er) (value q (seen (needs q) s)))
  unfolding answered_by queried ◌then◌ check
  answers_same k q =
      ap (λ (e : ℕ). choose (leb (needs q) e) (sourced p b (source_of p q) q) (refusal 26)) h.edition
      ∙ go (leb (needs q) er) (leb-true (needs q) er)
    where
      go : (t : Bool) → (t ≡ true → needs q ≤ er)
          → choose t (sourced p b (source_of p q) q) (refusal 26) ≡ answer_of (set_if t (value q (seen (needs q) s)))
      go true f = source_answer k q (f refl)
      go false f = refl
