use mathlib.Core.Path.{◌∙◌}
use Rattle.psv0_layout.proofs.Masks.{output_some, hull_mask, domain_mask, mask_none}
use Rattle.psv0_sections.proofs.mask_words.Goals as goal

pub returns-then-m-lt9 : goal.returns-then-m-lt9
returns-then-m-lt9 c =
    c.map_words.ensures
    ∙ output_some _ _ c.if-m-lt5.false c.if-m-lt9.true _ _ c.byte.ensures.0 c.byte-then-m-lt9.ensures.0

pub returns-then-m-eq9 : goal.returns-then-m-eq9
returns-then-m-eq9 c = c.stage_map_words.ensures ∙ rw c.if-m-eq9.true (hull_mask _)

pub returns-then-m-eq10 : goal.returns-then-m-eq10
returns-then-m-eq10 c = c.stage_map_words-then-m-eq10.ensures ∙ rw c.if-m-eq10.true (domain_mask _)

pub returns : goal.returns
returns c = mask_none _ _ c.if-m-lt9.false c.if-m-eq9.false c.if-m-eq10.false
