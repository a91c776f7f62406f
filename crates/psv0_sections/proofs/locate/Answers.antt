use Rattle.psv0_sections.proofs.Opening.{locates_refused, edition_25, length_2, head_passed, head_alone, head_read, body_located}
use Rattle.psv0_sections.proofs.locate.Goals as goal

pub returns-then-edition-gt3 : goal.returns-then-edition-gt3
returns-then-edition-gt3 c = locates_refused _ _ c.refused.ensures (edition_25 _ _ c.if-edition-gt3.true)

pub returns-then-d-gt16777216 : goal.returns-then-d-gt16777216
returns-then-d-gt16777216 c =
    locates_refused _ _ c.refused-then-d-gt16777216.ensures (length_2 _ _ c.if-edition-gt3.false c.if-d-gt16777216.true)

pub returns-in_err-places : goal.returns-in_err-places
returns-in_err-places c =
    head_passed _ _ c.if-edition-gt3.false c.if-d-gt16777216.false c.read_head.ensures c.from_residual.ensures c.in_err-places.was

pub returns-then-read-eq0 : goal.returns-then-read-eq0
returns-then-read-eq0 c =
    head_alone _ _ c.if-edition-gt3.false c.if-d-gt16777216.false c.read_head.ensures _ _ c.in_ok-places.was _ _
    c.edition_of.ensures c.min-read.ensures c.if-read-eq0.true

pub locate_body-requires : goal.locate_body-requires
locate_body-requires c =
    head_read _ _ c.if-edition-gt3.false c.if-d-gt16777216.false c.read_head.ensures _ _ c.in_ok-places.was _ _
    c.edition_of.ensures c.min-read.ensures c.if-read-eq0.false

pub returns : goal.returns
returns c =
    rw c.locate_body.ensures
    (body_located _ _ c.if-edition-gt3.false c.if-d-gt16777216.false c.read_head.ensures _ _ c.in_ok-places.was _ _
    c.edition_of.ensures c.min-read.ensures)
