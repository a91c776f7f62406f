-- Of any record and any bytes: an answer is 26, 29 or the value read; 26 doesn't depend on the bytes; a value is set exactly where the verdict
-- accepts.
-- Assumes nothing.
use Prim.Native.Nat.{ℕ, ◌+◌, ◌*◌, ◌≤◌, ◌<◌}
use mathlib.Core.Path.{◌≡◌, refl, ap}
use mathlib.Core.Bool.{Bool, true, false, ◌&&◌}
use mathlib.Core.List.{List, []}
use mathlib.Core.Logic.{◌⊎◌, inl, inr}
use native.Mathlib.Omega.{arith}
use lib.Dec.{leb, ltb}
use lib.ListN.{length, get_or, length-drop}
use lib.Seq.{length-take-le}
use borrow.Author.Tests.{leb-true, leb-false, ltb-true}
use Rattle.wire.specs.Choice.{choose}
use Rattle.wire.specs.Verdict.{number_of, Verdict, Accepted, Refused}
use Rattle.wire.proofs.Choices.{both}
use Rattle.psv0_layout.specs.Layout.{resource_width}
use Rattle.psv0_layout.specs.Shown.{Value, number, view, Question, stage_union, least_lanes, most_lanes, stage_number, uses_view, max_vertex_count, patch_vector_count, mesh_topology, input_elements, output_elements, patch_elements, input_vector_count, output_vector_count, threads, entry_name_offset_of, resource_field, element_field, element_string, element_points, element_array, mask, entry_name, entry_points, resource_count, string_bytes, index_count, element_count, needs, set_if, value, is_set}
use Rattle.psv0_layout.proofs.Positions.{rows_length}
use Rattle.places_layout.specs.Read.{body_by, seen_by, source_of, is_there, readable, value_by, Answer, given, refusal, answered_from, answered_by}
use Rattle.places_layout.specs.declared.SectionPlaces.{SectionPlaces}
use Rattle.places_layout.proofs.Standing.{resource_row}

abbrev pub is_accepted : Verdict → Bool
is_accepted Accepted = true
is_accepted (Refused n p) = false

-- by the three tests of an answer: the edition reaches it, it is there, it can be read
abbrev tested : Bool → Bool → Bool → Value → Answer
tested s t u x = choose s (choose t (choose u (given x) (refusal 29)) (refusal 26)) (refusal 26)

-- the value that is read
unfoldable pub value_read : SectionPlaces → List ℕ → Question → Value
value_read p b q = value_by p b (source_of p q) (seen_by p b (needs q)) (value q (seen_by p b (needs q)))

module _ (p : SectionPlaces) (q : Question) where
  abbrev reached : Bool
  reached = leb (needs q) p.edition

  abbrev there : Bool
  there = is_there p (source_of p q)

  pub answers_are : (b : List ℕ) → (answered_by p b q ≡ refusal 26) ⊎ (answered_by p b q ≡ given (value_read p b q)) ⊎ (answered_by p b q ≡ refusal 29)
  unfolding answered_by answered_from value_read
  answers_are b = go reached there (readable p b (source_of p q)) _
    where
      go : (s t u : Bool) (x : Value) → (tested s t u x ≡ refusal 26) ⊎ (tested s t u x ≡ given x) ⊎ (tested s t u x ≡ refusal 29)
      go false t u x = inl refl
      go true false u x = inl refl
      go true true true x = inr (inl refl)
      go true true false x = inr (inr refl)

  -- 26 goes by the record alone
  pub missing_alone : (b c : List ℕ) → answered_by p b q ≡ refusal 26 → answered_by p c q ≡ refusal 26
  unfolding answered_by answered_from
  missing_alone b c e = go reached there (readable p b (source_of p q)) (readable p c (source_of p q)) _ _ e
    where
      number_of_lem : {x y : Answer} → x ≡ y → number_of x.verdict ≡ number_of y.verdict
      number_of_lem r = ap (λ (a : Answer). number_of a.verdict) r

      go : (s t u v : Bool) (x y : Value) → tested s t u x ≡ refusal 26 → tested s t v y ≡ refusal 26
      go false t u v x y r = refl
      go true false u v x y r = refl
      go true true true v x y r = absurd (let z = number_of_lem r in omega arith)
      go true true false v x y r = absurd (let z = number_of_lem r in omega arith)

-- ---- a value that is read is set
set_true : (t : Bool) (x : Value) → t ≡ true → is_set x ≡ true → is_set (set_if t x) ≡ true
set_true t x e f = rw e f

-- a later edition reads no less of a resource record
pub width_mono : (e k s : ℕ) → e ≤ k → resource_width e s ≤ resource_width k s
width_mono e k s h = go (leb 2 e) (leb 2 k) (leb 24 s) (leb-true 2 e) (leb-false 2 k)
  where
    go : (x y z : Bool) → (x ≡ true → 2 ≤ e) → (y ≡ false → k < 2) → choose (x && z) 24 16 ≤ choose (y && z) 24 16
    go true true true f g = omega arith
    go true true false f g = omega arith
    go true false z f g = absurd (let a = f refl in let c = g refl in omega arith)
    go false true true f g = omega arith
    go false true false f g = omega arith
    go false false z f g = omega arith

module _ (p : SectionPlaces) (b : List ℕ) where
  resource_set : (i f : ℕ) → needs (resource_field i f) ≤ p.edition → is_there p (source_of p (resource_field i f)) ≡ true
      → readable p b (source_of p (resource_field i f)) ≡ true → is_set (value (resource_field i f) (seen_by p b (needs (resource_field i f)))) ≡ true
  unfolding source_of is_there readable value
  resource_set i f l t u =
      let (t1, t2) = both (ltb i p.resource_count) _ t in
      let (t3, t4) = both (ltb f 6) _ t2 in
      let inside : p.resources + i * p.resource_size + resource_width p.edition p.resource_size ≤ length b = leb-true _ _ u in
      let wide = width_mono (needs (resource_field i f)) p.edition p.resource_size l in
      let long : length (get_or (seen_by p b (needs (resource_field i f))).resources i []) ≡ resource_width (needs (resource_field i f)) p.resource_size =
      rw (resource_row p b (needs (resource_field i f)) i (ltb-true _ _ t1)) (length-take-le _ _ (rw length-drop (omega arith))) in
      rw (long, t3, t4)

  element_there : (i : ℕ) → ltb i p.element_count ≡ true → ltb i (length (seen_by p b 1).body.elements) ≡ true
  unfolding seen_by body_by
  element_there i t = rw rows_length t

  value_set : (q : Question) → needs q ≤ p.edition → is_there p (source_of p q) ≡ true → readable p b (source_of p q) ≡ true
      → is_set (value_by p b (source_of p q) (seen_by p b (needs q)) (value q (seen_by p b (needs q)))) ≡ true
  unfolding source_of is_there value_by value
  value_set stage_union l t u = refl
  value_set least_lanes l t u = refl
  value_set most_lanes l t u = refl
  value_set stage_number l t u = refl
  value_set uses_view l t u = refl
  value_set max_vertex_count l t u = refl
  value_set patch_vector_count l t u = refl
  value_set mesh_topology l t u = refl
  value_set input_elements l t u = refl
  value_set output_elements l t u = refl
  value_set patch_elements l t u = refl
  value_set input_vector_count l t u = refl
  value_set (output_vector_count i) l t u = set_true (ltb i 4) (number _) t refl
  value_set (threads i) l t u = refl
  value_set entry_name_offset_of l t u = refl
  value_set (resource_field i f) l t u = resource_set i f l t u
  value_set (element_field i f) l t u =
      let (a, c) = both (ltb i p.element_count) _ t in
      set_true _ (set_if (ltb f 13) (number _)) (element_there i a) (set_true (ltb f 13) (number _) c refl)
  value_set (element_string i) l t u = set_true _ (view _) (element_there i t) refl
  value_set (element_points i) l t u = set_true _ (number _) (element_there i t) refl
  value_set (element_array i) l t u = set_true _ (view _) (element_there i t) refl
  value_set (mask m) l t u = refl
  value_set entry_name l t u = refl
  value_set entry_points l t u = refl
  value_set resource_count l t u = refl
  value_set string_bytes l t u = refl
  value_set index_count l t u = refl
  value_set element_count l t u = refl

  -- a value is set exactly where the verdict accepts
  pub answers_set : (q : Question) → is_set (answered_by p b q).value ≡ is_accepted (answered_by p b q).verdict
  unfolding answered_by answered_from
  answers_set q =
      go (leb (needs q) p.edition) (is_there p (source_of p q)) (readable p b (source_of p q)) _ (λ s t u. value_set q (leb-true _ _ s) t u)
    where
      go : (s t u : Bool) (x : Value) → (s ≡ true → t ≡ true → u ≡ true → is_set x ≡ true)
          → is_set (tested s t u x).value ≡ is_accepted (tested s t u x).verdict
      go false t u x f = refl
      go true false u x f = refl
      go true true false x f = refl
      go true true true x f = f refl refl refl
