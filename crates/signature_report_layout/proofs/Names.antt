-- The names of a list of PSV0's elements, from the bytes that a reading hands out: those that the second report compares with.
-- Assumes nothing.
use Prim.Native.Nat.{ℕ, ◌+◌, ◌*◌, ◌/◌, ◌≤◌, ◌<◌}
use mathlib.Core.Path.{◌≡◌, refl, sym, ◌∙◌}
use mathlib.Core.Bool.{Bool, true, false}
use mathlib.Core.List.{List}
use native.Mathlib.Omega.{arith}
use lib.Dec.{leb, ltb}
use lib.ListN.{length}
use borrow.Author.Tests.{le-leb, lt-leb, leb-true, leb-false, ltb-true}
use Rattle.wire.specs.Number.{u32_at}
use Rattle.wire.specs.Verdict.{Accepted}
use Rattle.psv0_layout.specs.Field.{element_total}
use Rattle.psv0_layout.specs.Handed.{string_table, element_records, handed}
use Rattle.psv0_layout.specs.Judged.{opened}
use Rattle.psv0_layout.specs.Layout.{guide_of, edition_read_of}
use Rattle.psv0_layout.specs.Reference.{string_at}
use Rattle.psv0_layout.specs.Shown.{Question, view, input_elements, output_elements, patch_elements, element_string, set_if, value, shown_at}
use Rattle.psv0_layout.proofs.Listed.{handed_string}
use Rattle.psv0_layout.proofs.Positions.{guide_seen}
use Rattle.container_layout.specs.Container.{psv_of, container_judged, container_answered}
use Rattle.container_layout.proofs.Containers.{data_opens}
use Rattle.signature_report_layout.specs.Listed.{listed, list_of}
use Rattle.signature_report_layout.specs.Reported.{count_shown, list_size, list_before, psv_name}
use Rattle.signature_report_layout.specs.declared.SignaturePart.{SignaturePart}
use Rattle.signature_report_layout.specs.declared.SignaturePart.TheVariants.{Input, Output, Patch}

-- the three lists follow each other, "input, output, then patch constant or primitive", and are all elements
pub lists_follow : (n m p : ℕ) → (list_before Input n m ≡ 0)
    × (list_before Output n m ≡ list_before Input n m + list_size Input n m p)
    × (list_before Patch n m ≡ list_before Output n m + list_size Output n m p)
    × (n + m + p ≡ list_before Patch n m + list_size Patch n m p)
lists_follow n m p = (refl, omega arith, refl, refl)

-- a list lies within the three
pub list_within : (s : SignaturePart) (n m p : ℕ) → list_before s n m + list_size s n m p ≤ n + m + p
list_within Input n m p = omega arith
list_within Output n m p = omega arith
list_within Patch n m p = omega arith

-- the three counts that a reading shows
module _ (k : ℕ) (b : List ℕ) where
  abbrev pub inputs : ℕ
  inputs = count_shown (container_answered k b input_elements)

  abbrev pub outputs : ℕ
  outputs = count_shown (container_answered k b output_elements)

  abbrev pub patches : ℕ
  patches = count_shown (container_answered k b patch_elements)

module _ (k : ℕ) (b : List ℕ) (o : container_judged k b ≡ Accepted) where
  alone : opened k (psv_of b) ≡ Accepted
  alone = data_opens k b o

  shown_is : (q : Question) → container_answered k b q ≡ shown_at (edition_read_of k (psv_of b)) (psv_of b) q
  unfolding container_answered
  shown_is q = rw o

  -- E is the sum of the three counts from edition read 1 on; at 0 there is none
  total_is : 1 ≤ edition_read_of k (psv_of b) → inputs k b + outputs k b + patches k b ≡ element_total (guide_of (psv_of b))
  unfolding container_answered shown_at value
  total_is h = rw (o, le-leb 1 (edition_read_of k (psv_of b)) h, guide_seen)

  total_none : edition_read_of k (psv_of b) < 1 → inputs k b + outputs k b + patches k b ≡ 0
  unfolding container_answered shown_at
  total_none h = rw (o, lt-leb 1 (edition_read_of k (psv_of b)) h)

  some_read : {i : ℕ} → i < inputs k b + outputs k b + patches k b → 1 ≤ edition_read_of k (psv_of b)
  some_read l = go (leb 1 (edition_read_of k (psv_of b))) refl
    where
      go : (t : Bool) → leb 1 (edition_read_of k (psv_of b)) ≡ t → 1 ≤ edition_read_of k (psv_of b)
      go true e = leb-true 1 (edition_read_of k (psv_of b)) e
      go false e = absurd (omega (arith, total_none (leb-false 1 (edition_read_of k (psv_of b)) e)))

  -- element i over all lists
  string_listed : (i : ℕ) → i < inputs k b + outputs k b + patches k b
      → container_answered k b (element_string i)
      ≡ view (string_at (handed (edition_read_of k (psv_of b)) (psv_of b) string_table)
      (u32_at (handed (edition_read_of k (psv_of b)) (psv_of b) element_records)
      (i * (length (handed (edition_read_of k (psv_of b)) (psv_of b) element_records) / (inputs k b + outputs k b + patches k b)))))
  string_listed i l =
      let h = some_read l in
      let e = total_is h in
      shown_is (element_string i) ∙ rw e (handed_string k (psv_of b) alone h i (rw e at l))

  pub names_listed : (s : SignaturePart) (i : ℕ)
      → list_of s (inputs k b) (outputs k b) (patches k b) (handed (edition_read_of k (psv_of b)) (psv_of b) string_table)
      (handed (edition_read_of k (psv_of b)) (psv_of b) element_records) i
      ≡ psv_name s (container_answered k b) i
  unfolding list_of listed psv_name
  names_listed s i = go (ltb i (list_size s (inputs k b) (outputs k b) (patches k b))) refl
    where
      go : (t : Bool) → ltb i (list_size s (inputs k b) (outputs k b) (patches k b)) ≡ t
          → set_if t (view (string_at (handed (edition_read_of k (psv_of b)) (psv_of b) string_table)
          (u32_at (handed (edition_read_of k (psv_of b)) (psv_of b) element_records)
          ((list_before s (inputs k b) (outputs k b) + i) * (length (handed (edition_read_of k (psv_of b)) (psv_of b) element_records) / (inputs k b + outputs k b + patches k b))))))
          ≡ set_if t (container_answered k b (element_string (list_before s (inputs k b) (outputs k b) + i)))
      go true e =
          let l = ltb-true i (list_size s (inputs k b) (outputs k b) (patches k b)) e in
          let w = list_within s (inputs k b) (outputs k b) (patches k b) in
          sym (string_listed (list_before s (inputs k b) (outputs k b) + i) (omega arith))
      go false e = refl
