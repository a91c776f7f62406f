use Rattle.wire.proofs.Verdicts.{passed_on, accepted_by}
use Rattle.psv0_sections.proofs.Opening.{guide_inside, asked, first_passed, fields_first, rest_passed, placed_rest, references_first, all_accepted}
use Rattle.psv0_sections.proofs.locate_body.Goals as goal

pub slice_bounds-r-end : goal.slice_bounds-r-end
slice_bounds-r-end c = guide_inside _ _ _ _ c.requires

pub returns-in_err-judge_fields : goal.returns-in_err-judge_fields
returns-in_err-judge_fields c =
    rw (fields_first _ _ _ _ c.requires) (first_passed _ _ _ c.judge_fields.ensures _ c.from_residual.ensures c.in_err-judge_fields.was)

pub read_body-requires : goal.read_body-requires
read_body-requires c =
    asked _ _ _ _ c.requires _ _ c.element_total.ensures c.mask_bytes.ensures

pub returns-in_err-places : goal.returns-in_err-places
returns-in_err-places c =
    rest_passed _ _ _ _ c.requires (accepted_by _ _ c.judge_fields.ensures c.in_ok-judge_fields.was) c.read_body.ensures _
    c.from_residual-in_err-places.ensures c.in_err-places.was

pub judge_references-requires : goal.judge_references-requires
judge_references-requires c =
    placed_rest _ _ _ _ c.requires (accepted_by _ _ c.judge_fields.ensures c.in_ok-judge_fields.was) c.read_body.ensures _ c.in_ok-places.was

pub returns-in_err-judge_references : goal.returns-in_err-judge_references
returns-in_err-judge_references c =
    rw (references_first _ _ _ _ c.requires (accepted_by _ _ c.judge_fields.ensures c.in_ok-judge_fields.was) c.read_body.ensures _ c.in_ok-places.was)
    (passed_on _ _ c.judge_references.ensures _ c.from_residual-in_err-judge_references.ensures c.in_err-judge_references.was)

pub returns : goal.returns
returns c =
    all_accepted _ _ _ _ c.requires (accepted_by _ _ c.judge_fields.ensures c.in_ok-judge_fields.was) c.read_body.ensures _ c.in_ok-places.was
    (accepted_by _ _ c.judge_references.ensures c.in_ok-judge_references.was)
