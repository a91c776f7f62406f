-- The reports on a signature part s of a container b at edition k. Document 02, Ask 3: "Read ISG1, OSG1 and PSG1." The part is a parameter of all
-- that follows: "One proof serves the three parts."
use Rattle.std.specs.Prelude.{Option, Some, None, Result}
use Rattle.std.specs.Prelude.{Bool, true, not, ◌&&◌, List, [], ◌∷◌, ℕ, ◌+◌, ltb, eqb, length}
use Rattle.wire.specs.Number.{u32_at}
use Rattle.wire.specs.Search.{first}
use Rattle.wire.specs.Stretch.{same_bytes}
use Rattle.wire.specs.Verdict.{◌then◌, check, under, Verdict}
use Rattle.wire.specs.declared.Refusal.{Refusal}
use Rattle.part_table_layout.specs.Lookup.{find, found_below}
use Rattle.psv0_layout.specs.Reference.{string_at}
use Rattle.psv0_layout.specs.Shown.{Value, unset, number, view, Question, input_elements, output_elements, patch_elements, element_string, set_if}
use Rattle.container_layout.specs.Container.{start_found, container_answered}
use Rattle.container_layout.specs.Report.{data_named, reported}
use Rattle.signature_layout.specs.Signature.{count_of, name_offset_of, signature_judged, element_shown}
use Rattle.signature_layout.specs.declared.NameSpan.{NameSpan}
use Rattle.signature_layout.specs.declared.SignatureAnswer.{SignatureAnswer}
use Rattle.signature_report_layout.specs.declared.SignaturePart.{SignaturePart}
use Rattle.signature_report_layout.specs.declared.SignaturePart.TheVariants.{Input, Output, Patch}
use Rattle.signature_report_layout.specs.declared.SignatureReport.{SignatureReport}

-- the names `ISG1`, `OSG1` and `PSG1`, as numbers
abbrev pub part_name : SignaturePart → ℕ
part_name Input = u32_at (73 ∷ 83 ∷ 71 ∷ 49 ∷ []) 0
part_name Output = u32_at (79 ∷ 83 ∷ 71 ∷ 49 ∷ []) 0
part_name Patch = u32_at (80 ∷ 83 ∷ 71 ∷ 49 ∷ []) 0

-- the part's data, and where they start in the container
abbrev pub signature_data : SignaturePart → List ℕ → List ℕ
signature_data s b = data_named b (part_name s)

abbrev pub signature_start : SignaturePart → List ℕ → ℕ
signature_start s b = start_found b (find b (part_name s))

-- ---- the first report: what opening gives, then "an absent part (26)", then 43 to 45 and 52 of the part's data
unfoldable pub signature_reported : SignaturePart → ℕ → List ℕ → Verdict
signature_reported s k b = reported signature_judged (part_name s) k b

-- what is shown of a container whose data are accepted
abbrev pub report_shown : SignaturePart → List ℕ → SignatureReport
report_shown s b = record { count = count_of (signature_data s b); start = signature_start s b; len = length (signature_data s b) }

unfoldable pub signature_report_of : SignaturePart → ℕ → List ℕ → Result SignatureReport Refusal
signature_report_of s k b = under (signature_reported s k b) (report_shown s b)

-- element i of the part: 26 where there is none. Its name is a stretch of the container, not of the part
abbrev pub moved_name : ℕ → Option NameSpan → Option NameSpan
moved_name m (Some x) = Some (record { start = m + x.start; len = x.len; points = x.points })
moved_name m None = None

abbrev pub moved : ℕ → SignatureAnswer → SignatureAnswer
moved m a = record { element = a.element; name = moved_name m a.name }

unfoldable pub element_reported : SignaturePart → ℕ → List ℕ → ℕ → Verdict
element_reported s k b i = signature_reported s k b then check (ltb i (count_of (signature_data s b))) 26 0

unfoldable pub element_report_of : SignaturePart → ℕ → List ℕ → ℕ → Result SignatureAnswer Refusal
element_report_of s k b i = under (element_reported s k b i) (moved (signature_start s b) (element_shown (signature_data s b) i))

-- ---- the second report: "compares each named element with the PSV0 element of the same list and number"
-- a is what is shown of each question on PSV0. A count that is unset, at edition read 0, is none
abbrev pub count_shown : Value → ℕ
count_shown unset = 0
count_shown (number n) = n
count_shown (view l) = 0

-- the part's list in PSV0, of the counts n of input, m of output and p of patch constant or primitive elements: how many it has, and how many
-- stand before it, "input, output, then patch constant or primitive"
abbrev pub list_size : SignaturePart → ℕ → ℕ → ℕ → ℕ
list_size Input n m p = n
list_size Output n m p = m
list_size Patch n m p = p

abbrev pub list_before : SignaturePart → ℕ → ℕ → ℕ
list_before Input n m = 0
list_before Output n m = n
list_before Patch n m = n + m

-- the name of the PSV0 element of the same list, number i: unset where there is none
unfoldable pub psv_name : SignaturePart → (Question → Value) → ℕ → Value
psv_name s a i =
    let n = count_shown (a input_elements) in
    let m = count_shown (a output_elements) in
    set_if (ltb i (list_size s n m (count_shown (a patch_elements)))) (a (element_string (list_before s n m + i)))

-- "whose name differs or is missing there": l is the element's name. Names are compared by their bytes
abbrev pub differs : List ℕ → Value → Bool
differs l unset = true
differs l (number n) = true
differs l (view m) = not (same_bytes l m)

-- element i of the data d, with the names that PSV0 has: one without a name is passed over
unfoldable pub differs_at : List ℕ → (ℕ → Value) → ℕ → Bool
differs_at d names i = not (eqb (name_offset_of d i) 0) && differs (string_at d (name_offset_of d i)) (names i)

-- "the number of the first whose name differs or is missing there, or none"
unfoldable pub first_difference : List ℕ → (ℕ → Value) → Option ℕ
first_difference d names = found_below (count_of d) (first (differs_at d names) (count_of d))

-- "after the same refusals". d are the part's data, with the names that PSV0 has
abbrev pub difference_if : Verdict → List ℕ → (ℕ → Value) → Result (Option ℕ) Refusal
difference_if v d names = under v (first_difference d names)

unfoldable pub difference_of : SignaturePart → ℕ → List ℕ → Result (Option ℕ) Refusal
difference_of s k b = difference_if (signature_reported s k b) (signature_data s b) (psv_name s (container_answered k b))
