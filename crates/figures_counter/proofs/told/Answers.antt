use mathlib.Core.Path.{◌∙◌, ap}
use native.Mathlib.Omega.{arith}
use Rattle.figures_layout.specs.declared.Answer.{Answer}
use Rattle.figures_layout.proofs.Openings.{told_passed, place_short, accepted_answer}
use Rattle.figures_counter.proofs.told.Goals as goal

pub returns-in_err-p : goal.returns-in_err-p
returns-in_err-p c = told_passed _ _ c.part.ensures c.from_residual.ensures c.in_err-p.was

pub overflow_add-p : goal.overflow_add-p
overflow_add-p c = omega (arith, place_short _ _ c.part.ensures c.in_ok-p.was)

pub returns : goal.returns
returns c = ap (λ (a : Answer). a.opening) (accepted_answer _ _ c.part.ensures c.in_ok-p.was (c.edition_of-file_edition.ensures ∙ rw c.u32_at.ensures) (c.stage_shown-stage.ensures ∙ rw c.byte_at.ensures))

pub overflow_add-p-2 : goal.overflow_add-p-2
overflow_add-p-2 c = omega (arith, place_short _ _ c.part.ensures c.in_ok-p.was)
