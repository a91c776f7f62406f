-- What each call answers, from what it looks at: the laws that the code's proofs use. Of any record and any bytes.
-- Assumes nothing.
use Prim.Native.Nat.{ℕ, ◌+◌, ◌*◌, ◌≤◌, ◌<◌}
use mathlib.Core.Path.{◌≡◌, refl, sym, ◌∙◌, ap}
use Rattle.std.specs.Prelude.{Ok}
use mathlib.Core.Bool.{Bool, true, false, ◌&&◌}
use mathlib.Core.List.{List, []}
use mathlib.Core.Logic.{◌⊎◌, ⊎_elim}
use native.Mathlib.Omega.{arith}
use lib.Dec.{leb, ltb}
use lib.ListN.{length, get_or, take, drop, length-drop}
use lib.Seq.{get_or-take, take-take, length-take-le}
use borrow.Author.Tests.{le-leb, lt-ltb, le-ltb, leb-true, leb-false, ltb-true}
use Rattle.constants.specs.Edition.{size_of}
use Rattle.constants.proofs.Editions.{size_mono}
use Rattle.wire.specs.Choice.{choose}
use Rattle.wire.specs.Number.{u16_at, u32_at}
use Rattle.wire.specs.Verdict.{check, under, Verdict, Accepted, Refused}
use Rattle.wire.proofs.Choices.{choose_eq}
use Rattle.wire.proofs.Verdicts.{checked, refuses, accepts}
use Rattle.wire.proofs.Numbers.{u32_take}
use Rattle.psv0_layout.specs.Answers.{field_of, info_of, resource_of, element_of}
use Rattle.psv0_layout.specs.Layout.{Seen, no_body, resource_width}
use Rattle.psv0_layout.specs.Parts.{resource_shown, element_shown, refused_with}
use Rattle.psv0_layout.specs.Shown.{Value, unset, number, Question, least_lanes, most_lanes, stage_number, uses_view, max_vertex_count, patch_vector_count, mesh_topology, input_elements, output_elements, patch_elements, input_vector_count, output_vector_count, threads, entry_name_offset_of, resource_field, element_field, needs, set_if, element_fields, value}
use Rattle.psv0_layout.specs.declared.ElementRecord.{ElementRecord}
use Rattle.psv0_layout.specs.declared.ResourceRecord.{ResourceRecord}
use Rattle.psv0_layout.proofs.Positions.{part_u16, rows_length}
use Rattle.places_layout.specs.Answers.{shown_by, info_by, resource_by, element_by}
use Rattle.places_layout.specs.Parts.{staged, of_runtime}
use Rattle.places_layout.specs.Read.{body_by, seen_by, source_of, is_there, readable, value_by, Answer, given, refusal, answered_from, answered_by}
use Rattle.places_layout.specs.declared.SectionPlaces.{SectionPlaces}
use Rattle.places_layout.proofs.Any.{width_mono}
use Rattle.places_layout.proofs.Standing.{too_early, not_there, resource_row, element_row}

-- ---- the runtime record
module _ (p : SectionPlaces) (b : List ℕ) where
  abbrev pub runtime : List ℕ
  runtime = take (size_of p.edition) (drop p.runtime b)

  abbrev runtime_inside : Bool
  runtime_inside = leb (p.runtime + size_of p.edition) (length b)

  abbrev alone : Seen
  alone = record { runtime = runtime; resources = []; body = no_body }

  -- what is shown of a question about it
  shown_field : (q : Question) → readable p b (source_of p q) ≡ runtime_inside
      → is_there p (source_of p q) ≡ is_there (staged p.stage p.edition) (source_of (staged p.stage p.edition) q)
      → (needs q ≤ p.edition → value_by p b (source_of p q) (seen_by p b (needs q)) (value q (seen_by p b (needs q)))
      ≡ value_by (staged p.stage p.edition) [] (source_of (staged p.stage p.edition) q) alone (value q alone))
      → shown_by p b q ≡ set_if runtime_inside (of_runtime p.stage p.edition runtime q)
  unfolding shown_by answered_by answered_from of_runtime
  shown_field q e t f = go (leb (needs q) p.edition) _ _ _ runtime_inside _ _ e t (λ s. f (leb-true _ _ s))
    where
      by_tests : (s u i : Bool) (x y : Value) → (s ≡ true → x ≡ y)
          → (choose s (choose u (choose i (given x) (refusal 29)) (refusal 26)) (refusal 26)).value ≡ set_if i (set_if s (set_if u y))
      by_tests false u true x y g = refl
      by_tests false u false x y g = refl
      by_tests true false true x y g = refl
      by_tests true false false x y g = refl
      by_tests true true true x y g = g refl
      by_tests true true false x y g = refl

      go : (s u w i j : Bool) (x y : Value) → i ≡ j → u ≡ w → (s ≡ true → x ≡ y)
          → (choose s (choose u (choose i (given x) (refusal 29)) (refusal 26)) (refusal 26)).value ≡ set_if j (set_if s (set_if w y))
      go s u w i j x y a c g = rw (a, c) (by_tests s w j x y g)

  -- a field lies inside what its own edition sees
  module _ (e : ℕ) (h : e ≤ p.edition) where
    front : (seen_by p b e).runtime ≡ take (size_of e) runtime
    unfolding seen_by
    front = sym (take-take (size_of e) (size_of p.edition) _ (size_mono e p.edition h))

    byte : (o : ℕ) → o < size_of e → get_or (seen_by p b e).runtime o 0 ≡ get_or runtime o 0
    byte o l = rw front (get_or-take (size_of e) runtime o 0 l)

    word : (o : ℕ) → o + 4 ≤ size_of e → u32_at (seen_by p b e).runtime o ≡ u32_at runtime o
    word o l = rw front (u32_take (size_of e) runtime o l)

    pair : 28 ≤ size_of e → u16_at (seen_by p b e).runtime 26 ≡ u16_at runtime 26
    pair l = rw front (part_u16 runtime 0 (size_of e) 26 (omega arith))

  pub info_fields : info_of (shown_by p b) ≡ info_of (λ q. set_if runtime_inside (of_runtime p.stage p.edition runtime q))
  unfolding info_of source_of is_there readable value_by value
  info_fields =
      λ i.
      record {
        minimum_wave_lanes = field_of (shown_field least_lanes refl refl (λ h. ap number (word 0 h 16 (omega arith))) i);
        maximum_wave_lanes = field_of (shown_field most_lanes refl refl (λ h. ap number (word 0 h 20 (omega arith))) i);
        stage = field_of (shown_field stage_number refl refl (λ h. ap number (byte 1 h 24 (omega arith))) i);
        uses_view_id = field_of (shown_field uses_view refl refl (λ h. ap number (byte 1 h 25 (omega arith))) i);
        max_vertex_count = field_of (shown_field max_vertex_count refl refl (λ h. ap number (pair 1 h (omega arith))) i);
        patch_vectors = field_of (shown_field patch_vector_count refl refl (λ h. ap number (byte 1 h 26 (omega arith))) i);
        mesh_topology = field_of (shown_field mesh_topology refl refl (λ h. ap number (byte 1 h 27 (omega arith))) i);
        input_elements = field_of (shown_field input_elements refl refl (λ h. ap number (byte 1 h 28 (omega arith))) i);
        output_elements = field_of (shown_field output_elements refl refl (λ h. ap number (byte 1 h 29 (omega arith))) i);
        patch_elements = field_of (shown_field patch_elements refl refl (λ h. ap number (byte 1 h 30 (omega arith))) i);
        input_vectors = field_of (shown_field input_vector_count refl refl (λ h. ap number (byte 1 h 31 (omega arith))) i);
        output_vectors_0 = field_of (shown_field (output_vector_count 0) refl refl (λ h. ap number (byte 1 h 32 (omega arith))) i);
        output_vectors_1 = field_of (shown_field (output_vector_count 1) refl refl (λ h. ap number (byte 1 h 33 (omega arith))) i);
        output_vectors_2 = field_of (shown_field (output_vector_count 2) refl refl (λ h. ap number (byte 1 h 34 (omega arith))) i);
        output_vectors_3 = field_of (shown_field (output_vector_count 3) refl refl (λ h. ap number (byte 1 h 35 (omega arith))) i);
        threads_x = field_of (shown_field (threads 0) refl refl (λ h. ap number (word 2 h 36 (omega arith))) i);
        threads_y = field_of (shown_field (threads 1) refl refl (λ h. ap number (word 2 h 40 (omega arith))) i);
        threads_z = field_of (shown_field (threads 2) refl refl (λ h. ap number (word 2 h 44 (omega arith))) i);
        entry_name_offset = field_of (shown_field entry_name_offset_of refl refl (λ h. ap number (word 3 h 48 (omega arith))) i);
      }

  info_verdict : (answered_by p b least_lanes).verdict ≡ check runtime_inside 29 0
  unfolding answered_by answered_from source_of is_there readable check
  info_verdict = rw (le-leb 0 p.edition (omega arith)) (go runtime_inside _)
    where
      go : (i : Bool) (x : Value) → (choose i (given x) (refusal 29)).verdict ≡ check i 29 0
      go true x = refl
      go false x = refl

  -- the record's own test decides
  pub info_is : under (check runtime_inside 29 0) (info_of (shown_by p b)) ≡ info_by p b
  unfolding info_by
  info_is = ap (λ v. under v (info_of (shown_by p b))) (sym info_verdict)

  pub info_read : runtime_inside ≡ true → Ok (info_of (of_runtime p.stage p.edition runtime)) ≡ info_by p b
  unfolding info_by
  info_read t =
      let same : info_of (of_runtime p.stage p.edition runtime) ≡ info_of (shown_by p b) = sym (info_fields ∙ rw t) in
      ap Ok same ∙ accepts _ _ (sym (info_verdict ∙ checked _ 29 0 t))

-- ---- answers by their tests
module _ (p : SectionPlaces) (b : List ℕ) (q : Question) where
  -- the edition reaches it, it is there by the test t, it can be read by the test u, and then the value is x
  pub answered_as : (t u : Bool) (x : Value) → needs q ≤ p.edition → is_there p (source_of p q) ≡ t → readable p b (source_of p q) ≡ u
      → value_by p b (source_of p q) (seen_by p b (needs q)) (value q (seen_by p b (needs q))) ≡ x
      → answered_by p b q ≡ choose t (choose u (given x) (refusal 29)) (refusal 26)
  unfolding answered_by answered_from
  answered_as t u x h e f g = rw (le-leb _ _ h, e, f, g)

-- ---- a resource record
width_width : (e k s : ℕ) → e ≤ k → resource_width e (resource_width k s) ≡ resource_width e s
width_width e k s h = go (leb 2 e) (leb 2 k) (leb 24 s) (leb-true 2 e) (leb-false 2 k)
  where
    go : (x y z : Bool) → (x ≡ true → 2 ≤ e) → (y ≡ false → k < 2) → ◌≡◌ {A = ℕ} (choose (x && leb 24 (choose (y && z) 24 16)) 24 16) (choose (x && z) 24 16)
    go true true true f g = refl
    go true true false f g = refl
    go true false z f g = absurd (let a = f refl in let c = g refl in omega arith)
    go false y z f g = refl

module _ (p : SectionPlaces) (b : List ℕ) (i : ℕ) where
  abbrev resource_place : ℕ
  resource_place = p.resources + i * p.resource_size

  abbrev resource_length : ℕ
  resource_length = resource_width p.edition p.resource_size

  abbrev pub resource_bytes : List ℕ
  resource_bytes = take resource_length (drop resource_place b)

  pub no_resource : p.resource_count ≤ i → refused_with 26 0 ≡ resource_by p b i
  unfolding resource_by source_of is_there
  no_resource h =
      let missing : answered_by p b (resource_field i 0) ≡ refusal 26 = not_there p b (resource_field i 0) (rw (le-ltb i p.resource_count h)) in
      refuses _ _ refl (ap (λ (a : Answer). a.verdict) (sym missing))

  module _ (l : i < p.resource_count) where
    resource_verdict : (answered_by p b (resource_field i 0)).verdict ≡ check (leb (resource_place + resource_length) (length b)) 29 0
    unfolding answered_by answered_from source_of is_there readable check
    resource_verdict = rw (le-leb 0 p.edition (omega arith), lt-ltb i p.resource_count l) (go (leb (resource_place + resource_length) (length b)) _)
      where
        go : (t : Bool) (x : Value) → (choose t (given x) (refusal 29)).verdict ≡ check t 29 0
        go true x = refl
        go false x = refl

    pub resource_is : under (check (leb (resource_place + resource_length) (length b)) 29 0) (resource_of (λ f. field_of (shown_by p b (resource_field i f)))) ≡ resource_by p b i
    unfolding resource_by
    resource_is = ap (λ v. under v (resource_of (λ f. field_of (shown_by p b (resource_field i f))))) (sym resource_verdict)

    module _ (t : leb (resource_place + resource_length) (length b) ≡ true) where
      fits : resource_place + resource_length ≤ length b
      fits = leb-true _ _ t

      long : (w : ℕ) → w ≤ resource_length → length (take w (drop resource_place b)) ≡ w
      long w h = length-take-le w (drop resource_place b) (rw length-drop (omega (arith, fits)))

      module _ (f : ℕ) where
        abbrev e : ℕ
        e = needs (resource_field i f)

        abbrev we : ℕ
        we = resource_width e p.resource_size

        abbrev row : List ℕ
        row = take we (drop resource_place b)

        -- field f of the bytes that its edition knows
        abbrev field : Value
        field = set_if (ltb f 6 && leb (f * 4 + 4) we) (number (u32_at row (f * 4)))

        of_row : (r : List ℕ) → r ≡ row → e ≤ p.edition → set_if (ltb f 6 && leb (f * 4 + 4) (length r)) (number (u32_at r (f * 4))) ≡ field
        of_row r q h = rw (q, long we (width_mono e p.edition p.resource_size h))

        bytes_shown : resource_shown p.edition resource_bytes f ≡ field_of (set_if (leb e p.edition) field)
        unfolding resource_shown
        bytes_shown =
            ap field_of
            (choose_eq (leb e p.edition) _ field unset
            (λ s.
            let h = leb-true e p.edition s in
            let n : length resource_bytes ≡ resource_length = long resource_length (omega arith) in
            let m = width_mono e p.edition p.resource_size h in
            let q : take (resource_width e (length resource_bytes)) resource_bytes ≡ row =
            rw (n, width_width e p.edition p.resource_size h) (take-take we resource_length (drop resource_place b) m) in
            of_row _ q h))

        record_shown : shown_by p b (resource_field i f) ≡ set_if (leb e p.edition) field
        unfolding shown_by source_of is_there readable value_by value
        record_shown = go (leb e p.edition) (leb-true e p.edition) (leb-false e p.edition)
          where
            tested : (u : Bool) (x : Value) → (choose u (choose true (given (set_if u x)) (refusal 29)) (refusal 26)).value ≡ set_if u x
            tested true x = refl
            tested false x = refl

            go : (s : Bool) → (s ≡ true → e ≤ p.edition) → (s ≡ false → p.edition < e) → (answered_by p b (resource_field i f)).value ≡ set_if s field
            go true g k =
                let h = g refl in
                ap (λ (a : Answer). a.value)
                (answered_as p b (resource_field i f) (ltb f 6 && leb (f * 4 + 4) we) true field h (rw (lt-ltb i p.resource_count l)) t
                (of_row _ (resource_row p b e i l) h))
                ∙ tested (ltb f 6 && leb (f * 4 + 4) we) (number (u32_at row (f * 4)))
            go false g k = ap (λ (a : Answer). a.value) (too_early p b (resource_field i f) (k refl))

      pub resource_read : (x : ResourceRecord) → x ≡ resource_of (resource_shown p.edition resource_bytes) → Ok x ≡ resource_by p b i
      unfolding resource_by
      resource_read x h =
          let field : (f : ℕ) → resource_shown p.edition resource_bytes f ≡ field_of (shown_by p b (resource_field i f)) =
          λ f. bytes_shown f ∙ sym (ap field_of (record_shown f)) in
          let same : x ≡ resource_of (λ f. field_of (shown_by p b (resource_field i f))) = h ∙ (λ j. resource_of (λ f. field f j)) in
          ap Ok same ∙ accepts _ _ (sym (resource_verdict ∙ checked _ 29 0 t))

-- ---- an element record
module _ (p : SectionPlaces) (b : List ℕ) (i : ℕ) where
  abbrev element_place : ℕ
  element_place = p.elements + i * p.element_size

  abbrev pub element_bytes : List ℕ
  element_bytes = take 16 (drop element_place b)

  -- the verdict of element i, which is that of its first field
  abbrev pub element_verdict : Verdict
  element_verdict = (answered_by p b (element_field i 0)).verdict

  -- an answer by the edition, by whether the element is there, by whether its record can be read, and by what else is needed
  abbrev by_tests : Bool → Bool → Bool → Value → Answer
  by_tests s t u x = choose s (choose t (choose u (given x) (refusal 29)) (refusal 26)) (refusal 26)

  -- no element is there at edition read 0, or past the last
  pub no_element : (p.edition < 1) ⊎ (p.element_count ≤ i) → Refused 26 0 ≡ element_verdict
  unfolding source_of is_there
  no_element h =
      ap (λ (a : Answer). a.verdict)
      (sym (⊎_elim (λ e. too_early p b (element_field i 0) e) (λ e. not_there p b (element_field i 0) (rw (le-ltb i p.element_count e))) h))

  -- a question about what the element's record refers to is refused with what the element is
  pub element_refuses : (q : Question) → needs q ≡ 1 → (r o : Bool) → is_there p (source_of p q) ≡ ltb i p.element_count
      → readable p b (source_of p q) ≡ (leb (element_place + 16) (length b) && r && o)
      → {n m : ℕ} → element_verdict ≡ Refused n m → answered_by p b q ≡ record { verdict = Refused n m; value = unset }
  unfolding answered_by answered_from source_of is_there readable
  element_refuses q e r o f g h = rw (e, f, g) (go (leb 1 p.edition) (ltb i p.element_count) (leb (element_place + 16) (length b)) _ _ h)
    where
      go : (s t u : Bool) (x y : Value) {n m : ℕ} → (by_tests s (t && true) u x).verdict ≡ Refused n m
          → by_tests s t (u && r && o) y ≡ record { verdict = Refused n m; value = unset }
      go false t u x y k = λ j. record { verdict = k j; value = unset }
      go true false u x y k = λ j. record { verdict = k j; value = unset }
      go true true false x y k = λ j. record { verdict = k j; value = unset }
      go true true true x y k = absurd (let z : ◌≡◌ {A = ℕ} 0 1 = cc in omega arith)

  -- one that is accepted
  pub element_accepted : element_verdict ≡ Accepted → (1 ≤ p.edition) × (i < p.element_count) × (leb (element_place + 16) (length b) ≡ true)
  unfolding answered_by answered_from source_of is_there readable
  element_accepted h =
      let (s, t, u) = go (leb 1 p.edition) (ltb i p.element_count) (leb (element_place + 16) (length b)) _ h in
      (leb-true 1 p.edition s, ltb-true i p.element_count t, u)
    where
      go : (s t u : Bool) (x : Value) → (by_tests s (t && true) u x).verdict ≡ Accepted → (s ≡ true) × (t ≡ true) × (u ≡ true)
      go true true true x k = (refl, refl, refl)
      go true true false x k = absurd (let z : ◌≡◌ {A = ℕ} 0 1 = cc in omega arith)
      go true false u x k = absurd (let z : ◌≡◌ {A = ℕ} 0 1 = cc in omega arith)
      go false t u x k = absurd (let z : ◌≡◌ {A = ℕ} 0 1 = cc in omega arith)

  module _ (one : 1 ≤ p.edition) (l : i < p.element_count) where
    pub there : ltb i p.element_count ≡ true
    there = lt-ltb i p.element_count l

    -- the verdict of one that is there
    pub element_fits : element_verdict ≡ check (leb (element_place + 16) (length b)) 29 0
    unfolding answered_by answered_from source_of is_there readable check
    element_fits = go (leb 1 p.edition) (ltb i p.element_count) (leb (element_place + 16) (length b)) _ (le-leb 1 p.edition one) there
      where
        go : (s t u : Bool) (x : Value) → s ≡ true → t ≡ true → (by_tests s (t && true) u x).verdict ≡ check u 29 0
        go s t true x e f = rw (e, f)
        go s t false x e f = rw (e, f)

    -- what is shown of element i, where there is one
    pub of_element_lem : (x : Value) → set_if (ltb i (length (seen_by p b 1).body.elements)) x ≡ x
    unfolding seen_by body_by
    of_element_lem x = rw (rows_length, there)

    pub row_is : get_or (seen_by p b 1).body.elements i [] ≡ element_bytes
    unfolding seen_by
    row_is = element_row p b i l

    pub element_read : (x : ElementRecord) → leb (element_place + 16) (length b) ≡ true → x ≡ element_of (element_shown element_bytes) → Ok x ≡ element_by p b i
    unfolding element_by shown_by element_shown source_of is_there readable value_by value
    element_read x t h =
        let tested : (u : Bool) (n : ℕ) → (choose u (choose true (given (set_if u (number n))) (refusal 29)) (refusal 26)).value ≡ set_if u (number n) = tested_field in
        let field : (f : ℕ) → (answered_by p b (element_field i f)).value ≡ set_if (ltb f 13) (number (get_or (element_fields element_bytes) f 0)) =
        λ f.
        ap (λ (a : Answer). a.value)
        (answered_as p b (element_field i f) (ltb f 13) true _ one (rw there) t
        (of_element_lem _ ∙ ap (λ r. set_if (ltb f 13) (number (get_or (element_fields r) f 0))) row_is))
        ∙ tested (ltb f 13) _ in
        let same : x ≡ element_of (λ f. field_of (shown_by p b (element_field i f))) = h ∙ (λ j. element_of (λ f. field_of (sym (field f) j))) in
        ap Ok same ∙ accepts _ _ (sym (element_fits ∙ checked _ 29 0 t))
      where
        tested_field : (u : Bool) (n : ℕ) → (choose u (choose true (given (set_if u (number n))) (refusal 29)) (refusal 26)).value ≡ set_if u (number n)
        tested_field true n = refl
        tested_field false n = refl
