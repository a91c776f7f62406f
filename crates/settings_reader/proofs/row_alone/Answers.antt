use mathlib.Core.Path.{sym, ◌∙◌}
use native.Mathlib.Omega.{arith}
use Rattle.wire.proofs.Verdicts.{refuses, accepts, accepted_by, value_by}
use Rattle.settings_layout.specs.Shown.{row_alone_of}
use Rattle.settings_reader.proofs.Steps.{stopped, number_ends, row_no_version, row_falls, row_no_key, row_unknown, row_no_value, row_out, row_held, row_shown}
use Rattle.settings_reader.proofs.row_alone.Goals as goal

pub returns-in_err-version : goal.returns-in_err-version
unfolding row_alone_of
returns-in_err-version c =
    stopped _ _ c.number_at.ensures _ _ c.from_residual.ensures c.in_err-version.was (row_no_version c.args.d.now c.args.at c.args.last)

pub returns-then-version-last : goal.returns-then-version-last
unfolding row_alone_of
returns-then-version-last c =
    refuses _ _ c.refused.ensures (row_falls c.args.d.now c.args.at c.args.last (accepted_by _ _ c.number_at.ensures c.in_ok-version.was) (value_by _ _ c.number_at.ensures c.in_ok-version.was) c.if-version-last.true)

pub overflow_add-at_key : goal.overflow_add-at_key
overflow_add-at_key c = let h = number_ends c.args.d.now c.args.at (accepted_by _ _ c.number_at.ensures c.in_ok-version.was) (value_by _ _ c.number_at.ensures c.in_ok-version.was) in omega arith

pub returns-in_err-key : goal.returns-in_err-key
unfolding row_alone_of
returns-in_err-key c =
    stopped _ _ c.number_at-2.ensures _ _ c.from_residual-in_err-key.ensures c.in_err-key.was
    (row_no_key c.args.d.now c.args.at c.args.last (accepted_by _ _ c.number_at.ensures c.in_ok-version.was) (value_by _ _ c.number_at.ensures c.in_ok-version.was) c.if-version-last.false)

pub returns-then-not-key_known : goal.returns-then-not-key_known
unfolding row_alone_of
returns-then-not-key_known c =
    refuses _ _ c.refused-then-not-key_known.ensures
    (row_unknown c.args.d.now c.args.at c.args.last (accepted_by _ _ c.number_at.ensures c.in_ok-version.was) (value_by _ _ c.number_at.ensures c.in_ok-version.was) c.if-version-last.false (accepted_by _ _ c.number_at-2.ensures c.in_ok-key.was) (value_by _ _ c.number_at-2.ensures c.in_ok-key.was) (sym c.key_known.ensures ∙ c.if-not-key_known.true))

pub overflow_add-at_value : goal.overflow_add-at_value
overflow_add-at_value c = let h = number_ends c.args.d.now _ (accepted_by _ _ c.number_at-2.ensures c.in_ok-key.was) (value_by _ _ c.number_at-2.ensures c.in_ok-key.was) in omega arith

pub returns-in_err-value : goal.returns-in_err-value
unfolding row_alone_of
returns-in_err-value c =
    stopped _ _ c.number_at-3.ensures _ _ c.from_residual-in_err-value.ensures c.in_err-value.was
    (row_no_value c.args.d.now c.args.at c.args.last (accepted_by _ _ c.number_at.ensures c.in_ok-version.was) (value_by _ _ c.number_at.ensures c.in_ok-version.was) c.if-version-last.false (accepted_by _ _ c.number_at-2.ensures c.in_ok-key.was) (value_by _ _ c.number_at-2.ensures c.in_ok-key.was) (sym c.key_known.ensures ∙ c.if-not-key_known.false))

pub returns-then-not-in_range : goal.returns-then-not-in_range
unfolding row_alone_of
returns-then-not-in_range c =
    refuses _ _ c.refused-then-not-in_range.ensures
    (row_out c.args.d.now c.args.at c.args.last (accepted_by _ _ c.number_at.ensures c.in_ok-version.was) (value_by _ _ c.number_at.ensures c.in_ok-version.was) c.if-version-last.false (accepted_by _ _ c.number_at-2.ensures c.in_ok-key.was) (value_by _ _ c.number_at-2.ensures c.in_ok-key.was) (sym c.key_known.ensures ∙ c.if-not-key_known.false) (accepted_by _ _ c.number_at-3.ensures c.in_ok-value.was) (value_by _ _ c.number_at-3.ensures c.in_ok-value.was) (sym c.in_range.ensures ∙ c.if-not-in_range.true))

pub overflow_add-result : goal.overflow_add-result
overflow_add-result c = let h = number_ends c.args.d.now _ (accepted_by _ _ c.number_at-3.ensures c.in_ok-value.was) (value_by _ _ c.number_at-3.ensures c.in_ok-value.was) in omega arith

pub returns : goal.returns
unfolding row_alone_of
returns c =
    rw (row_shown c.args.d.now c.args.at c.args.last (accepted_by _ _ c.number_at.ensures c.in_ok-version.was) (value_by _ _ c.number_at.ensures c.in_ok-version.was) c.if-version-last.false (accepted_by _ _ c.number_at-2.ensures c.in_ok-key.was) (value_by _ _ c.number_at-2.ensures c.in_ok-key.was) (sym c.key_known.ensures ∙ c.if-not-key_known.false) (accepted_by _ _ c.number_at-3.ensures c.in_ok-value.was) (value_by _ _ c.number_at-3.ensures c.in_ok-value.was))
    (accepts _ _ (row_held c.args.d.now c.args.at c.args.last (accepted_by _ _ c.number_at.ensures c.in_ok-version.was) (value_by _ _ c.number_at.ensures c.in_ok-version.was) c.if-version-last.false (accepted_by _ _ c.number_at-2.ensures c.in_ok-key.was) (value_by _ _ c.number_at-2.ensures c.in_ok-key.was) (sym c.key_known.ensures ∙ c.if-not-key_known.false) (accepted_by _ _ c.number_at-3.ensures c.in_ok-value.was) (value_by _ _ c.number_at-3.ensures c.in_ok-value.was) (sym c.in_range.ensures ∙ c.if-not-in_range.false)))
