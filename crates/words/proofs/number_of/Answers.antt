use mathlib.Core.Path.{refl, sym, ◌∙◌}
use borrow.Author.Tests.{eqb-true, eqb-false}
use Rattle.words.proofs.Digits.{none_named, reading_begin, not_digit, reading_more, told}
use Rattle.words.proofs.number_of.Goals as goal

pub returns-then-is_empty : goal.returns-then-is_empty
returns-then-is_empty c = none_named c.args.s.now (eqb-true _ _ (sym c.is_empty.ensures ∙ c.if-is_empty.true))

pub loop-c-init : goal.loop-c-init
loop-c-init c = reading_begin c.args.s.now (eqb-false _ _ (sym c.is_empty.ensures ∙ c.if-is_empty.false))

pub returns-then-not-is_ascii_digit : goal.returns-then-not-is_ascii_digit
returns-then-not-is_ascii_digit c = not_digit _ _ _ c.loop-c.invariant c.loop-c-test.true refl (sym c.is_ascii_digit.ensures.value ∙ c.if-not-is_ascii_digit.true)

pub loop-c-preserved : goal.loop-c-preserved
loop-c-preserved c = reading_more _ _ _ c.loop-c.invariant c.loop-c-test.true refl (sym c.is_ascii_digit.ensures.value ∙ c.if-not-is_ascii_digit.false) (rw c.from.ensures at c.min-n.ensures)

pub returns : goal.returns
returns c = told _ _ _ c.loop-c.invariant c.loop-c-test.false _ c.try_from.ensures c.or.ensures
