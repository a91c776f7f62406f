-- The steps of the reader's code: its checks at numbers that it holds, and its answers.
-- Assumes nothing.
use Rattle.std.specs.Prelude.{Option, Result, Ok, Err, IsErr, IsErrAnd}
use Prim.Native.Nat.{ℕ, ◌+◌, ◌-◌, ◌*◌, ◌≤◌, ◌<◌}
use mathlib.Core.Path.{◌≡◌, sym, ◌∙◌}
use mathlib.Core.Bool.{Bool}
use mathlib.Core.Logic.{◌⊎◌, inl, inr}
use mathlib.Core.List.{List}
use native.Mathlib.Numerals.{add-one}
use native.Mathlib.Omega.{arith}
use lib.Dec.{leb, ltb}
use lib.ListN.{length, get_or}
use borrow.Author.Tests.{le-leb, lt-leb, lt-ltb, le-ltb, eq-eqb, ne_eqb, ltb-true}
use Rattle.wire.specs.Number.{u32_at}
use Rattle.wire.specs.Verdict.{◌then◌, check, when, each, under, Verdict, Accepted, Refused}
use Rattle.wire.specs.declared.Refusal.{Refusal}
use Rattle.wire.proofs.Verdicts.{each_stop, each_next, refused_by, accepted_by, passed_on, then_accepted, check_accepted}
use Rattle.root_signature_layout.specs.Root.{version_of, parameters_of, parameters_at, samplers_at, items_of, in11, range_size, parameter_at, type_at, visibility_at, data_at, data_size, ranges_of, range_at, sampler_at, header_judged, own_judged, type_judged, data_judged, ranges_judged, parameter_judged, sampler_judged, item_judged, parameter_of, sampler_of, item_at, range_of, range_shown, item_there, range_there, item_queried, item_alone}
use Rattle.root_signature_layout.specs.declared.DescriptorRange.{DescriptorRange}
use Rattle.root_signature_layout.specs.declared.Item.{Item}
use Rattle.root_signature_layout.specs.declared.Item.TheVariants.{Constants, Descriptor, Table}

-- ---- an answer w under the first of two verdicts: what `?` returns of its refusal, and what is left where it accepts
module _ {A B : Type 0} (v u : Verdict) (x : A) {w : Result A Refusal} (hw : w ≡ under v x) (y : B) where
  pub stops : {r : Refusal} {q : Result B Refusal} → IsErr q × IsErrAnd q (λ (s : Refusal). s ≡ r) → w ≡ Err r → q ≡ under (v then u) y
  unfolding ◌then◌
  stops h e = let z = refused_by _ _ hw e in rw z (rw z at (passed_on v x hw y h e))

  pub goes_on : {z : A} → w ≡ Ok z → under u y ≡ under (v then u) y
  unfolding ◌then◌
  goes_on e = rw (accepted_by _ _ hw e)

-- ---- an item that is there has a number that is small, since each of the two counts has four bytes
module _ (d : List ℕ) (i : ℕ) (bytes : (k : ℕ) → get_or d k 0 < 256) where
  four_bytes : (at : ℕ) → u32_at d at < 4294967296
  unfolding u32_at
  four_bytes at = omega (arith, bytes at, bytes (at + 1), bytes (at + 2), bytes (at + 3))

  pub there_few : item_there d i ≡ Accepted → i < 8589934592
  unfolding item_there
  there_few a = omega (arith, ltb-true i (items_of d) (check_accepted _ 26 0 a), four_bytes 4, four_bytes 12)

  pub queried_few : item_queried d i ≡ Accepted → i < 8589934592
  unfolding item_queried
  queried_few a = there_few (then_accepted _ _ a).1

  pub alone_few : item_alone d i ≡ Accepted → i < 8589934592
  unfolding item_alone
  alone_few a = there_few (then_accepted _ _ (then_accepted _ _ a).1).0

-- ---- 46 and 47: v is the version that was read
module _ (d : List ℕ) where
  pub short_header : length d < 24 → Refused 46 0 ≡ header_judged d
  unfolding header_judged check ◌then◌
  short_header h = simp (lt-leb _ _ h)

  module _ (l : 24 ≤ length d) {v : ℕ} (ev : v ≡ version_of d) where
    pub other_version : (v ≡ 1 → ⊥) → (v ≡ 2 → ⊥) → Refused 47 0 ≡ header_judged d
    unfolding header_judged check ◌then◌
    other_version f g = simp (le-leb _ _ l, ne_eqb (version_of d) 1 (λ q. f (ev ∙ q)), ne_eqb (version_of d) 2 (λ q. g (ev ∙ q)))

    pub known_version : (((v ≡ 1 → ⊥) × (v ≡ 2)) ⊎ (v ≡ 1)) → Accepted ≡ header_judged d
    unfolding header_judged check ◌then◌
    known_version (inl (f, e)) = simp (le-leb _ _ l, ne_eqb (version_of d) 1 (λ q. f (ev ∙ q)), eq-eqb (version_of d) 2 (sym ev ∙ e))
    known_version (inr e) = simp (le-leb _ _ l, eq-eqb (version_of d) 1 (sym ev ∙ e))

-- ---- what was read of the record of parameter i: p is the parameters' offset
module _ (d : List ℕ) (i : ℕ) {p x : ℕ} (ep : p ≡ parameters_at d) where
  pub read_type : x ≡ u32_at d (p + 12 * i) → x ≡ type_at d i
  unfolding type_at parameter_at
  read_type e = e ∙ rw ep

  pub read_visibility : x ≡ u32_at d (p + 12 * i + 4) → x ≡ visibility_at d i
  unfolding visibility_at parameter_at
  read_visibility e = e ∙ rw ep

  pub read_data : x ≡ u32_at d (p + 12 * i + 8) → x ≡ data_at d i
  unfolding data_at parameter_at
  read_data e = e ∙ rw ep

-- ---- 48 to 51 of parameter i: p is the parameters' offset, t its type, v the version, o its data's offset and s their size
module _ (d : List ℕ) (i : ℕ) {p : ℕ} (ep : p ≡ parameters_at d) where
  pub own_outside : length d < p + 12 * i + 12 → Refused 48 i ≡ parameter_judged d i
  unfolding parameter_judged own_judged parameter_at check ◌then◌
  own_outside h = simp (lt-leb _ _ (rw ep at h))

  module _ (h : p + 12 * i + 12 ≤ length d) {t : ℕ} (type_is : t ≡ type_at d i) where
    own_then : parameter_judged d i ≡ (type_judged d i then data_judged d i then ranges_judged d i)
    unfolding parameter_judged own_judged parameter_at check ◌then◌
    own_then = simp (le-leb _ _ (rw ep at h))

    pub other_type : 4 < t → Refused 49 i ≡ parameter_judged d i
    unfolding type_judged check ◌then◌
    other_type g = rw own_then (simp (lt-leb _ _ (rw type_is at g)))

    module _ (g : t ≤ 4) {v o s : ℕ} (ev : v ≡ version_of d) (data_is : o ≡ data_at d i) (es : s ≡ data_size v t) where
      size_is : o + s ≡ data_at d i + data_size (version_of d) (type_at d i)
      size_is = rw (es, data_is, ev, type_is)

      type_then : parameter_judged d i ≡ (data_judged d i then ranges_judged d i)
      unfolding type_judged check ◌then◌
      type_then = own_then ∙ simp (le-leb _ _ (rw type_is at g))

      pub data_outside : length d < o + s → Refused 50 i ≡ parameter_judged d i
      unfolding data_judged check ◌then◌
      data_outside f = rw type_then (simp (lt-leb _ _ (rw size_is at f)))

      module _ (f : o + s ≤ length d) where
        data_then : parameter_judged d i ≡ ranges_judged d i
        unfolding data_judged check ◌then◌
        data_then = type_then ∙ simp (le-leb _ _ (rw size_is at f))

        pub no_table : (t ≡ 0 → ⊥) → Accepted ≡ parameter_judged d i
        unfolding ranges_judged when
        no_table z = rw (data_then, ne_eqb (type_at d i) 0 (λ q. z (type_is ∙ q)))

        -- n is the range count, r the ranges' offset and w the size of one
        module _ (z : t ≡ 0) {n r w : ℕ} (en : n ≡ u32_at d o) (er : r ≡ u32_at d (o + 4)) (ew : w ≡ range_size v) where
          end_is : r + w * n ≡ range_at d i (ranges_of d i)
          unfolding range_at ranges_of
          end_is = rw (en, er, ew, data_is, ev)

          pub ranges_outside : length d < r + w * n → Refused 51 i ≡ parameter_judged d i
          unfolding ranges_judged when check
          ranges_outside k = rw (data_then, eq-eqb (type_at d i) 0 (sym type_is ∙ z), lt-leb _ _ (rw end_is at k))

          pub ranges_inside : r + w * n ≤ length d → Accepted ≡ parameter_judged d i
          unfolding ranges_judged when check
          ranges_inside k = rw (data_then, eq-eqb (type_at d i) 0 (sym type_is ∙ z), le-leb _ _ (rw end_is at k))

-- ---- item i: n is the number of parameters
module _ (d : List ℕ) (i : ℕ) {n : ℕ} (en : n ≡ parameters_of d) where
  module _ (h : i < n) where
    pub parameter_decides : parameter_judged d i ≡ item_judged d i
    unfolding item_judged
    parameter_decides = rw (lt-ltb i (parameters_of d) (rw en at h))

    pub parameter_shown : {x : Item} → x ≡ parameter_of d i → x ≡ item_at d i
    unfolding item_at
    parameter_shown e = e ∙ rw (lt-ltb i (parameters_of d) (rw en at h))

  -- a sampler: s is the samplers' offset
  module _ (h : n ≤ i) {s : ℕ} (es : s ≡ samplers_at d) where
    place_is : s + 52 * (i - n) ≡ sampler_at d i
    unfolding sampler_at
    place_is = rw (es, en)

    sampler_is : item_judged d i ≡ check (leb (s + 52 * (i - n) + 52) (length d)) 48 i
    unfolding item_judged sampler_judged own_judged
    sampler_is = rw (place_is, le-ltb i (parameters_of d) (rw en at h))

    pub sampler_outside : length d < s + 52 * (i - n) + 52 → Refused 48 i ≡ item_judged d i
    unfolding check
    sampler_outside g = sym (sampler_is ∙ rw (lt-leb _ _ g))

    pub sampler_inside : s + 52 * (i - n) + 52 ≤ length d → Accepted ≡ item_judged d i
    unfolding check
    sampler_inside g = sym (sampler_is ∙ rw (le-leb _ _ g))

    pub sampler_shown : {x : Item} → x ≡ sampler_of d (s + 52 * (i - n)) → x ≡ item_at d i
    unfolding item_at
    sampler_shown e = e ∙ rw (place_is, le-ltb i (parameters_of d) (rw en at h))

-- ---- the loop over the items: w is what item i was answered
module _ (d : List ℕ) (i : ℕ) (so_far : each (item_judged d) i ≡ Accepted) {w : Result Unit Refusal} (hw : w ≡ under (item_judged d i) tt) where
  pub item_stops : {r : Refusal} → i < items_of d → w ≡ Err r → item_judged d i ≡ each (item_judged d) (items_of d)
  item_stops h e = let z = refused_by _ _ hw e in z ∙ sym (each_stop _ i _ _ _ h so_far z)

  pub item_passes : {y : Unit} → w ≡ Ok y → each (item_judged d) (i + 1) ≡ Accepted
  item_passes e = rw (add-one i) (each_next _ i so_far (accepted_by _ _ hw e))

-- ---- parameter i: t is its type, x its visibility, o its data's offset; a, b, c what was read of its data
module _ (d : List ℕ) (i : ℕ) {t x o : ℕ} (et : t ≡ type_at d i) (ex : x ≡ visibility_at d i) (eo : o ≡ data_at d i) where
  module _ {a b : ℕ} (ea : a ≡ u32_at d o) (eb : b ≡ u32_at d (o + 4)) where
    pub a_table : t ≡ 0 → Table x a b ≡ parameter_of d i
    unfolding parameter_of
    a_table z = rw (ea, eb, ← et, ← ex, ← eo, eq-eqb t 0 z)

    module _ (z : t ≡ 0 → ⊥) {c : ℕ} (ec : c ≡ u32_at d (o + 8)) where
      pub some_constants : t ≡ 1 → Constants x a b c ≡ parameter_of d i
      unfolding parameter_of
      some_constants e = rw (ea, eb, ec, ← et, ← ex, ← eo, ne_eqb t 0 z, eq-eqb t 1 e)

      pub a_descriptor : {v : ℕ} {f : Option ℕ} → (t ≡ 1 → ⊥) → v ≡ version_of d → f ≡ in11 v c → Descriptor t x a b f ≡ parameter_of d i
      unfolding parameter_of
      a_descriptor e ev ef = rw (ef, ea, eb, ec, ev, ← et, ← ex, ← eo, ne_eqb t 0 z, ne_eqb t 1 e)

-- ---- range j of item i: n is the number of parameters, t the item's type, o its data's offset, m its range count
module _ (d : List ℕ) (i j : ℕ) {n : ℕ} (en : n ≡ parameters_of d) where
  pub no_parameter : n ≤ i → Refused 26 0 ≡ range_there d i j
  unfolding range_there check
  no_parameter h = rw (le-ltb i (parameters_of d) (rw en at h))

  module _ (h : i < n) {t : ℕ} (et : t ≡ type_at d i) where
    pub not_a_table : (t ≡ 0 → ⊥) → Refused 26 0 ≡ range_there d i j
    unfolding range_there check
    not_a_table f = rw (lt-ltb i (parameters_of d) (rw en at h), ne_eqb (type_at d i) 0 (λ q. f (et ∙ q)))

    module _ (z : t ≡ 0) {o m : ℕ} (eo : o ≡ data_at d i) (em : m ≡ u32_at d o) where
      of_ranges : m ≡ ranges_of d i
      unfolding ranges_of
      of_ranges = em ∙ rw eo

      there : (r : Bool) → ltb j (ranges_of d i) ≡ r → range_there d i j ≡ check r 26 0
      unfolding range_there
      there r e = rw (lt-ltb i (parameters_of d) (rw en at h), eq-eqb (type_at d i) 0 (sym et ∙ z), e)

      pub no_such_range : m ≤ j → Refused 26 0 ≡ range_there d i j
      unfolding check
      no_such_range k = rw (there _ (le-ltb j (ranges_of d i) (rw of_ranges at k)))

      pub such_range : j < m → Accepted ≡ range_there d i j
      unfolding check
      such_range k = rw (there _ (lt-ltb j (ranges_of d i) (rw of_ranges at k)))

-- what was read at the place w, where range j of item i starts: v is the version, f the ranges' offset
pub range_is : (d : List ℕ) (i j : ℕ) {v o f w : ℕ} {x : DescriptorRange} → v ≡ version_of d → o ≡ data_at d i → f ≡ u32_at d (o + 4) → w ≡ f + range_size v * j
    → x ≡ range_of v d w → x ≡ range_shown d i j
unfolding range_at
range_is d i j ev eo ef ew ex = rw (ex, ew, ef, ev, eo)
