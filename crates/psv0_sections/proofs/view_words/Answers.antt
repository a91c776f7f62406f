use mathlib.Core.Path.{◌∙◌}
use mathlib.Core.Logic.{inl, inr, ⊎_elim}
use Rattle.psv0_layout.proofs.Masks.{view_none, view_some, patch_some, patch_none}
use Rattle.psv0_sections.proofs.view_words.Goals as goal

pub returns-then-byte-ne1 : goal.returns-then-byte-ne1
returns-then-byte-ne1 c = view_none _ _ _ c.byte.ensures.0 c.requires c.if-byte-ne1.true

pub returns-then-m-lt4 : goal.returns-then-m-lt4
returns-then-m-lt4 c =
    c.words.ensures.0
    ∙ view_some _ _ _ c.byte.ensures.0 c.if-m-lt4.true c.if-byte-ne1.false _ c.byte-then-m-lt4.ensures.0

pub returns-then-stage-eq3 : goal.returns-then-stage-eq3
returns-then-stage-eq3 c =
    c.words-then-stage-eq3.ensures.0
    ∙ patch_some _ _ _ c.byte.ensures.0 c.if-m-lt4.false c.requires c.if-byte-ne1.false _
    c.byte-stage.ensures.0 (⊎_elim inl (λ q. inr q.1) c.then-stage-eq3.either) _ c.byte-then-stage-eq3.ensures.0

pub returns : goal.returns
returns c =
    patch_none _ _ _ c.byte.ensures.0 c.if-m-lt4.false c.requires c.if-byte-ne1.false _
    c.byte-stage.ensures.0 c.if-stage-eq3.false c.if-stage-eq13.false
