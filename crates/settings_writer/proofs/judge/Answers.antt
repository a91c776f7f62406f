use mathlib.Core.Path.{sym, ap, ◌∙◌}
use native.Mathlib.Omega.{arith}
use borrow.Author.Tests.{eqb-true, eqb-false}
use Rattle.wire.proofs.Verdicts.{refuses}
use Rattle.settings_layout.specs.Checked.{width}
use Rattle.settings_writer.proofs.Checks.{not_whole, large_count, many_given, few_given}
use Rattle.settings_writer.proofs.judge.Goals as goal

pub returns-then-not-is_empty : goal.returns-then-not-is_empty
returns-then-not-is_empty c =
    refuses _ _ c.refused.ensures
    (not_whole c.args.numbers.now c.args.room (λ e. eqb-false _ _ (sym c.is_empty.ensures ∙ c.if-not-is_empty.true) (c.as_chunks.ensures.back_len ∙ e)))

pub returns-in_default : goal.returns-in_default
returns-in_default c =
    let h = rw c.as_chunks.ensures.front_len at c.in_default.ensures in
    refuses _ _ c.refused-in_default.ensures
    (large_count c.args.numbers.now c.args.room (sym c.as_chunks.ensures.back_len ∙ eqb-true _ _ (sym c.is_empty.ensures ∙ c.if-not-is_empty.false)) (omega arith))

pub returns-then-count-gt512 : goal.returns-then-count-gt512
returns-then-count-gt512 c =
    let (l, e) = rw c.as_chunks.ensures.front_len at c.in-Ok.ensures in
    refuses _ _ c.refused-then-count-gt512.ensures
    (many_given c.args.numbers.now c.args.room (sym c.as_chunks.ensures.back_len ∙ eqb-true _ _ (sym c.is_empty.ensures ∙ c.if-not-is_empty.false)) (λ i. omega (arith, c.type_inv.numbers i)) (omega arith) (omega (arith, c.if-count-gt512.true)))

pub returns : goal.returns
returns c =
    let (l, e) = rw c.as_chunks.ensures.front_len at c.in-Ok.ensures in
    few_given c.args.numbers.now c.args.room (sym c.as_chunks.ensures.back_len ∙ eqb-true _ _ (sym c.is_empty.ensures ∙ c.if-not-is_empty.false)) (λ i. omega (arith, c.type_inv.numbers i)) (omega (arith, c.if-count-gt512.false)) (c.width_of.ensures.0 ∙ ap width e) c.as_chunks.ensures.front c.judge_rows.ensures
