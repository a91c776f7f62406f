-- The second report on the data d of a signature part s by a record p of section places in the bytes b (document 02, Ask 11): by any record, of any
-- bytes.
use Rattle.std.specs.Prelude.{Option, Result, List, ℕ}
use Rattle.wire.specs.Verdict.{◌then◌, verdict_of, Verdict}
use Rattle.wire.specs.declared.Refusal.{Refusal}
use Rattle.psv0_layout.specs.Answers.{bytes_of}
use Rattle.psv0_layout.specs.Handed.{string_table, element_records}
use Rattle.psv0_layout.specs.Shown.{Value, input_elements, output_elements, patch_elements}
use Rattle.places_layout.specs.Answers.{shown_by, info_by}
use Rattle.places_layout.specs.Handed.{handed_by}
use Rattle.places_layout.specs.declared.SectionPlaces.{SectionPlaces}
use Rattle.signature_layout.specs.Signature.{signature_judged}
use Rattle.signature_report_layout.specs.Listed.{list_of}
use Rattle.signature_report_layout.specs.Reported.{count_shown, difference_if}
use Rattle.signature_report_layout.specs.declared.SignaturePart.{SignaturePart}

module _ (p : SectionPlaces) (b : List ℕ) where
  -- "if all it needs lies inside", else 29: the runtime record, the string table and the element records
  unfoldable pub needed_by : Verdict
  needed_by = verdict_of (info_by p b) then (handed_by p b string_table).verdict then (handed_by p b element_records).verdict

  -- the names of the part's list: its counts from the runtime record, and the names from the table and the records as they stand
  unfoldable pub names_by : SignaturePart → ℕ → Value
  names_by s =
      list_of s (count_shown (shown_by p b input_elements)) (count_shown (shown_by p b output_elements)) (count_shown (shown_by p b patch_elements))
      (bytes_of (handed_by p b string_table).value) (bytes_of (handed_by p b element_records).value)

  -- 43 to 45 and 52 of the data, then 29
  unfoldable pub difference_by : SignaturePart → List ℕ → Result (Option ℕ) Refusal
  difference_by s d = difference_if (signature_judged d then needed_by) d (names_by s)
