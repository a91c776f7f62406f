-- What the queries by a record of places answer: as those on the bytes alone, from what each question is answered with.
use Rattle.std.specs.Prelude.{List, None, Result, ℕ}
use Rattle.wire.specs.Verdict.{under}
use Rattle.wire.specs.declared.Refusal.{Refusal}
use Rattle.psv0_layout.specs.Answers.{field_of, info_of, resource_of, element_of, lengths_of, question_of, points_of, section_of, bytes_of, SpanShows}
use Rattle.psv0_layout.specs.Shown.{Value, Question, least_lanes, resource_field, element_field}
use Rattle.psv0_layout.specs.declared.ElementRecord.{ElementRecord}
use Rattle.psv0_layout.specs.declared.RuntimeInfo.{RuntimeInfo}
use Rattle.psv0_layout.specs.declared.ListLengths.{ListLengths}
use Rattle.psv0_layout.specs.declared.ResourceRecord.{ResourceRecord}
use Rattle.psv0_layout.specs.declared.Section.{Section}
use Rattle.psv0_layout.specs.declared.Span.{Span}
use Rattle.psv0_layout.specs.declared.View.{View}
use Rattle.places_layout.specs.Handed.{handed_by}
use Rattle.places_layout.specs.Read.{answered_by}
use Rattle.places_layout.specs.declared.SectionPlaces.{SectionPlaces}

module _ (p : SectionPlaces) (b : List ℕ) where
  -- what is shown of each question: unset beside 26 and 29
  unfoldable pub shown_by : Question → Value
  shown_by q = (answered_by p b q).value

  -- a runtime record has lane counts whatever its edition and stage: their verdict is that of the record
  unfoldable pub info_by : Result RuntimeInfo Refusal
  info_by = under (answered_by p b least_lanes).verdict (info_of shown_by)

  -- a record has its first field
  unfoldable pub resource_by : ℕ → Result ResourceRecord Refusal
  resource_by i = under (answered_by p b (resource_field i 0)).verdict (resource_of (λ f. field_of (shown_by (resource_field i f))))

  unfoldable pub element_by : ℕ → Result ElementRecord Refusal
  element_by i = under (answered_by p b (element_field i 0)).verdict (element_of (λ f. field_of (shown_by (element_field i f))))

  -- lengths go by the record: each is set or unset, and nothing is refused
  unfoldable pub lengths_by : ListLengths
  lengths_by = lengths_of shown_by

  -- a view, and a section's bytes, as a span
  abbrev pub ViewBy : View → Result Span Refusal → Type 0
  ViewBy v s = SpanShows b (answered_by p b (question_of v)).verdict (bytes_of (shown_by (question_of v))) (points_of v shown_by) s

  abbrev pub SectionBy : Section → Result Span Refusal → Type 0
  SectionBy t s = SpanShows b (handed_by p b (section_of t)).verdict (bytes_of (handed_by p b (section_of t)).value) None s
