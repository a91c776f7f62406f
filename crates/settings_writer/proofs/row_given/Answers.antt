use mathlib.Core.Path.{sym, ◌∙◌}
use Rattle.wire.proofs.Verdicts.{refuses, accepts}
use Rattle.settings_writer.proofs.Checks.{given_falls, given_unknown, given_out, given_right, given_end}
use Rattle.settings_writer.proofs.row_given.Goals as goal

pub returns-then-row-last : goal.returns-then-row-last
returns-then-row-last c = refuses _ _ c.refused.ensures (given_falls c.args.last c.args.at c.args.row c.if-row-last.true)

pub returns-then-not-key_known : goal.returns-then-not-key_known
returns-then-not-key_known c =
    refuses _ _ c.refused-then-not-key_known.ensures
    (given_unknown c.args.last c.args.at c.args.row c.if-row-last.false c.width_of.ensures.0 (sym c.key_known.ensures ∙ c.if-not-key_known.true))

pub returns-then-not-in_range : goal.returns-then-not-in_range
returns-then-not-in_range c =
    refuses _ _ c.refused-then-not-in_range.ensures
    (given_out c.args.last c.args.at c.args.row c.if-row-last.false c.width_of.ensures.0 (sym c.key_known.ensures ∙ c.if-not-key_known.false) c.width_of-2.ensures.0 (sym c.in_range.ensures ∙ c.if-not-in_range.true))

pub returns : goal.returns
returns c =
    rw (given_end c.args.last c.args.at c.args.row c.if-row-last.false c.width_of.ensures.0 (sym c.key_known.ensures ∙ c.if-not-key_known.false) c.width_of-2.ensures.0 c.width_of-3.ensures.0)
    (accepts _ _ (given_right c.args.last c.args.at c.args.row c.if-row-last.false c.width_of.ensures.0 (sym c.key_known.ensures ∙ c.if-not-key_known.false) c.width_of-2.ensures.0 (sym c.in_range.ensures ∙ c.if-not-in_range.false)))
