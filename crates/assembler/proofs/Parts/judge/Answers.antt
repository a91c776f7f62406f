use Rattle.std.specs.Prelude.{Ok}
use mathlib.Core.Path.{refl, sym, ap, ◌∙◌}
use Rattle.wire.proofs.Verdicts.{refuses, accepts, refused_by, accepted_by, passed_on}
use Rattle.assembler_layout.specs.Answer.{sized}
use Rattle.assembler.specs.Parts.{parts_of}
use Rattle.assembler_layout.proofs.Checks.{not_right, too_many, name_twice, too_long, no_room, all_right, ends_agree}
use Rattle.assembler.proofs.Parts.judge.Goals as goal

pub returns-then-not-lengths_right : goal.returns-then-not-lengths_right
returns-then-not-lengths_right c =
    refuses _ _ c.refused.ensures (not_right _ _ (sym c.lengths_right.ensures ∙ c.if-not-lengths_right.true))

pub returns-then-n-gt96 : goal.returns-then-n-gt96
returns-then-n-gt96 c =
    refuses _ _ c.refused-then-n-gt96.ensures (too_many _ _ (sym c.lengths_right.ensures ∙ c.if-not-lengths_right.false) c.if-n-gt96.true)

pub returns-in_err-judge_names : goal.returns-in_err-judge_names
returns-in_err-judge_names c =
    let was = c.in_err-judge_names.was in
    let twice = name_twice _ c.args.room (sym c.lengths_right.ensures ∙ c.if-not-lengths_right.false) c.if-n-gt96.false refl (refused_by _ _ c.judge_names.ensures was) in
    passed_on _ _ (refuses _ tt was twice) _ c.from_residual.ensures was

pub returns-then-len-gt16777216 : goal.returns-then-len-gt16777216
returns-then-len-gt16777216 c =
    refuses _ _ c.refused-then-len-gt16777216.ensures
    (too_long _ _ (sym c.lengths_right.ensures ∙ c.if-not-lengths_right.false) c.if-n-gt96.false refl (accepted_by _ _ c.judge_names.ensures c.in_ok-judge_names.was)
    (c.file_length-len.ensures ∙ ends_agree (sized _) (parts_of c.args.self.now) refl _) c.if-len-gt16777216.true)

pub returns-then-room-len : goal.returns-then-room-len
returns-then-room-len c =
    refuses _ _ c.refused-then-room-len.ensures
    (no_room _ _ (sym c.lengths_right.ensures ∙ c.if-not-lengths_right.false) c.if-n-gt96.false refl (accepted_by _ _ c.judge_names.ensures c.in_ok-judge_names.was)
    (c.file_length-len.ensures ∙ ends_agree (sized _) (parts_of c.args.self.now) refl _) c.if-len-gt16777216.false c.if-room-len.true)

pub returns : goal.returns
returns c =
    let len = c.file_length-len.ensures ∙ ends_agree (sized _) (parts_of c.args.self.now) refl _ in
    ap Ok len
    ∙ accepts _ _ (all_right _ _ (sym c.lengths_right.ensures ∙ c.if-not-lengths_right.false) c.if-n-gt96.false refl (accepted_by _ _ c.judge_names.ensures c.in_ok-judge_names.was) len c.if-len-gt16777216.false c.if-room-len.false)
