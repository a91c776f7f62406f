use mathlib.Core.Path.{sym, ◌∙◌}
use Rattle.psv0_sections.proofs.Walking.{small_of}
use Rattle.psv0_sections.proofs.Reading.{head_refuses, count_short, head_only_is, resources_cut, resources_read}
use Rattle.psv0_sections.proofs.read_resources.Goals as goal

pub records-requires : goal.records-requires
records-requires c = small_of c.in-Some.is c.field.ensures.1

pub returns-in_default : goal.returns-in_default
returns-in_default c = head_refuses _ c.refused.ensures (count_short _ _ _ c.requires (sym c.field.ensures.0 ∙ c.in_default.is))

pub returns-in_default-records : goal.returns-in_default-records
returns-in_default-records c =
    head_refuses _ c.refused-in_default-records.ensures
    (resources_cut _ _ _ c.requires _ _ (sym c.field.ensures.0 ∙ c.in-Some.is) (sym c.records.ensures ∙ c.in_default-records.is))

pub returns : goal.returns
returns c =
    rw (head_only_is c.default.result _ _ _ _ c.default.ensures)
    (resources_read _ _ _ c.requires _ _ (sym c.field.ensures.0 ∙ c.in-Some.is) _ (sym c.records.ensures ∙ c.in-Some-records.is))
