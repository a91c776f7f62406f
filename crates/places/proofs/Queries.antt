-- The queries by a record, from what the code finds: where it looked, how many bytes, and what it made of them.
-- Assumes nothing.
use Rattle.std.specs.Prelude.{Some, None, Result, Ok, Err, IsErr, IsErrAnd}
use Prim.Native.Nat.{ℕ, ◌+◌, ◌-◌, ◌*◌, ◌≤◌, ◌<◌}
use mathlib.Core.Path.{◌≡◌, refl, sym, ◌∙◌, ap}
use mathlib.Core.Bool.{Bool, true, false, ◌&&◌}
use mathlib.Core.List.{List}
use native.Mathlib.Omega.{arith}
use lib.Dec.{leb}
use lib.ListN.{length, get_or, take, drop, length-drop}
use lib.Seq.{length-take-le}
use borrow.Author.Tests.{leb-true}
use Rattle.constants.specs.Edition.{size_of}
use Rattle.constants.proofs.Editions.{size_mono}
use Rattle.wire.specs.Choice.{choose}
use Rattle.wire.specs.Number.{u32_at}
use Rattle.wire.specs.Verdict.{check, under, Refused}
use Rattle.wire.specs.declared.Refusal.{Refusal}
use Rattle.wire.proofs.Verdicts.{check_accepted, refused_by, accepted_by, value_by}
use Rattle.psv0_layout.specs.Answers.{field_of, info_of, resource_of, element_of}
use Rattle.psv0_layout.specs.Layout.{resource_width}
use Rattle.psv0_layout.specs.Parts.{resource_shown, element_shown, accepted_span, refused_with}
use Rattle.psv0_layout.specs.Shown.{resource_field}
use Rattle.psv0_layout.specs.declared.ElementRecord.{ElementRecord}
use Rattle.psv0_layout.specs.declared.ResourceRecord.{ResourceRecord}
use Rattle.psv0_layout.specs.declared.RuntimeInfo.{RuntimeInfo}
use Rattle.psv0_layout.specs.declared.Span.{Span}
use Rattle.psv0_layout.specs.declared.View.TheVariants.{ElementString, ElementArray}
use Rattle.psv0_layout.proofs.Spans.{passed_err}
use Rattle.utf8.specs.One.{read_of}
use Rattle.utf8.specs.declared.StringRead.{StringRead}
use Rattle.utf8.proofs.One.{told_good, told_ill}
use Rattle.places_layout.specs.Answers.{shown_by, info_by, resource_by, element_by, ViewBy}
use Rattle.places_layout.specs.Parts.{of_runtime, StringShows, ArrayShows}
use Rattle.places_layout.specs.declared.SectionPlaces.{SectionPlaces}
use Rattle.places_layout.proofs.Views.{string_found, string_fits, no_string, string_refused, array_refused, element_string_read, element_array_read}
use Rattle.places_layout.proofs.Calls.{info_is, info_read, resource_is, resource_read, element_verdict, element_accepted, element_fits, element_read}

-- a slice from a to a + n has n bytes
pub slice_size : (a n : ℕ) → a + n - a ≡ n
slice_size a n = omega arith

-- ---- what a test t of the bytes told, by 29
module _ {A : Type 0} (x : A) (t : Bool) {w : Result A Refusal} (h : w ≡ under (check t 29 0) x) where
  pub told_inside : {y : A} → w ≡ Ok y → t ≡ true
  told_inside e = check_accepted t 29 0 (accepted_by _ _ h e)

  pub told_outside : {r : Refusal} → w ≡ Err r → t ≡ false
  unfolding check
  told_outside {r} e = go t (refused_by _ _ h e)
    where
      go : (t : Bool) → check t 29 0 ≡ Refused r.number r.place → t ≡ false
      go true k = absurd (let z : ◌≡◌ {A = ℕ} 0 1 = cc in omega arith)
      go false k = refl

  -- and what `?` then returns
  pub passed_outside : {B : Type 0} {q : Result B Refusal} {r : Refusal} → IsErr q × IsErrAnd q (λ (s : Refusal). s ≡ r) → w ≡ Err r → q ≡ refused_with 29 0
  unfolding check
  passed_outside {B} {q} {r} k e =
      let z : Refused 29 0 ≡ Refused r.number r.place = rw (told_outside e) at (refused_by _ _ h e) in
      let n : r.number ≡ 29 = cc in
      let m : r.place ≡ 0 = cc in
      passed_err q k ∙ (λ j. Err (record { number = n j; place = m j }))

pub union_told : (e at m : ℕ) → at + size_of e ≤ m → at + 16 ≤ m
union_told e at m h = omega (arith, size_mono 0 e (omega arith))

width_least : (e s : ℕ) → 16 ≤ resource_width e s
width_least e s = go (leb 2 e && leb 24 s)
  where
    go : (t : Bool) → 16 ≤ choose t 24 16
    go true = omega arith
    go false = omega arith

pub resource_long : (b : List ℕ) (at n e s : ℕ) → n ≡ resource_width e s → at + n ≤ length b → 16 ≤ length (take (at + n - at) (drop at b))
resource_long b at n e s w h =
    let l : length (take n (drop at b)) ≡ n = length-take-le n (drop at b) (rw length-drop (omega arith)) in
    rw (slice_size at n, l, w) (width_least e s)

module _ (p : SectionPlaces) (b : List ℕ) where
  -- ---- the runtime record, of n bytes
  module _ (n : ℕ) (w : n ≡ size_of p.edition) where
    pub info_told : under (check (leb (p.runtime + n) (length b)) 29 0) (info_of (shown_by p b)) ≡ info_by p b
    info_told = rw w (info_is p b)

    pub info_found : (x : RuntimeInfo) → leb (p.runtime + n) (length b) ≡ true
        → x ≡ info_of (of_runtime p.stage p.edition (take (p.runtime + n - p.runtime) (drop p.runtime b))) → Ok x ≡ info_by p b
    info_found x t h =
        let q : x ≡ info_of (of_runtime p.stage p.edition (take (size_of p.edition) (drop p.runtime b))) = h ∙ rw (slice_size p.runtime n, w) in
        ap Ok q ∙ info_read p b (rw w at t)

  -- ---- resource record i, of which n bytes at a place are looked at
  module _ (i at n : ℕ) (l : i < p.resource_count) (q : at ≡ p.resources + i * p.resource_size) (w : n ≡ resource_width p.edition p.resource_size) where
    pub resource_told : under (check (leb (at + n) (length b)) 29 0) (resource_of (λ f. field_of (shown_by p b (resource_field i f)))) ≡ resource_by p b i
    resource_told = rw (q, w) (resource_is p b i l)

    pub resource_found : (x : ResourceRecord) → leb (at + n) (length b) ≡ true → x ≡ resource_of (resource_shown p.edition (take (at + n - at) (drop at b)))
        → Ok x ≡ resource_by p b i
    resource_found x t h = resource_read p b i l (rw (q, w) at t) x (h ∙ rw (slice_size at n, q, w))

  -- ---- element record i
  module _ (i : ℕ) where
    abbrev place : ℕ
    place = p.elements + i * p.element_size

    pub place_told : (at : ℕ) → 1 ≤ p.edition → i < p.element_count → at ≡ place → under (check (leb (at + 16) (length b)) 29 0) at ≡ under (element_verdict p b i) place
    place_told at one l q =
        let v : check (leb (at + 16) (length b)) 29 0 ≡ element_verdict p b i = rw q (sym (element_fits p b i one l)) in
        λ j. under (v j) (q j)

    -- by what is answered about its place
    module _ {w : Result ℕ Refusal} (h : w ≡ under (element_verdict p b i) place) where
      module _ {at : ℕ} (e : w ≡ Ok at) where
        at_is : at ≡ place
        at_is = value_by _ _ h e

        found : (1 ≤ p.edition) × (i < p.element_count) × (leb (place + 16) (length b) ≡ true)
        found = element_accepted p b i (accepted_by _ _ h e)

        pub element_long : at + 16 ≤ length b
        element_long = rw at_is (leb-true (place + 16) (length b) found.2)

        pub element_found : (x : ElementRecord) → x ≡ element_of (element_shown (take (at + 16 - at) (drop at b))) → Ok x ≡ element_by p b i
        element_found x q = element_read p b i found.0 found.1 x found.2 (q ∙ rw (slice_size at 16, at_is))

        pub string_read : (s : Result Span Refusal) → StringShows b p.strings p.string_bytes (u32_at b at) s → ViewBy p b (ElementString i) s
        string_read s k = element_string_read p b i s found.0 found.1 found.2 (rw at_is at k)

        pub array_read : (s : Result Span Refusal) (c r : ℕ) → c ≡ u32_at b (at + 4) → r ≡ get_or b (at + 8) 0 → ArrayShows b p.indices p.index_count c r s
            → ViewBy p b (ElementArray i) s
        array_read s c r ec er k = element_array_read p b i s found.0 found.1 c r found.2 (rw at_is at ec) (rw at_is at er) k

      module _ {s : Result Span Refusal} {r : Refusal} (k : IsErr s × IsErrAnd s (λ (y : Refusal). y ≡ r)) (e : w ≡ Err r) where
        pub no_string_read : ViewBy p b (ElementString i) s
        no_string_read = string_refused p b i s (refused_by _ _ h e) (passed_err s k)

        pub no_array_read : ViewBy p b (ElementArray i) s
        no_array_read = array_refused p b i s (refused_by _ _ h e) (passed_err s k)

-- ---- the string at a reference o into the table that a slice is
module _ (b : List ℕ) (at n o : ℕ) where
  abbrev table : List ℕ
  table = take (at + n - at) (drop at b)

  module _ (r : StringRead) (h : at + n ≤ length b) (e : read_of table o ≡ Some r) where
    pub name_fits : at + o + r.len ≤ length b
    name_fits =
        let (g, l, q) = told_good (take n (drop at b)) o r (rw (slice_size at n) at e) in
        string_fits b at n o r.len h g l

    pub name_found : leb (at + n) (length b) ≡ true → StringShows b at n o (accepted_span (at + o) r.len (Some r.points))
    name_found t =
        let (g, l, q) = told_good (take n (drop at b)) o r (rw (slice_size at n) at e) in
        string_found b at n o r.len r.points t h g l q

  pub name_ill : leb (at + n) (length b) ≡ true → read_of table o ≡ None → StringShows b at n o (refused_with 29 0)
  name_ill t e =
      let g = told_ill (take n (drop at b)) o (rw (slice_size at n) at e) in
      no_string b at n o (rw (t, g))

  pub name_outside : leb (at + n) (length b) ≡ false → StringShows b at n o (refused_with 29 0)
  name_outside t = no_string b at n o (rw t)
