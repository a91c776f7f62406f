use Rattle.std.specs.Prelude.{Ok}
use mathlib.Core.Path.{◌≡◌, refl, ◌∙◌, sym, ap}
use native.Mathlib.Omega.{arith}
use Rattle.wire.proofs.Verdicts.{refuses, accepts, refused_by, accepted_by, passed_on}
use Rattle.psv0_writer_layout.specs.Stretch.{written_length}
use Rattle.psv0_writer_layout.proofs.Checks.{no_edition, lengths_refused, too_long, given_refused, no_room, all_right}
use Rattle.psv0_writer_layout.proofs.Writing.{written_length_lem}
use Rattle.psv0_writer.specs.Sections.{given_by}
use Rattle.psv0_writer.proofs.Sections.judge.Goals as goal

pub returns-then-edition-gt3 : goal.returns-then-edition-gt3
returns-then-edition-gt3 c = refuses _ _ c.refused.ensures (no_edition _ _ _ c.if-edition-gt3.true)

pub returns-then-not-lengths_right : goal.returns-then-not-lengths_right
returns-then-not-lengths_right c =
    refuses _ _ c.refused-then-not-lengths_right.ensures
    (lengths_refused _ _ _ c.if-edition-gt3.false (sym c.lengths_right.ensures ∙ c.if-not-lengths_right.true))

pub returns-then-len-gt16777216 : goal.returns-then-len-gt16777216
returns-then-len-gt16777216 c =
    refuses _ _ c.refused-then-len-gt16777216.ensures
    (too_long _ _ _ c.if-edition-gt3.false (sym c.lengths_right.ensures ∙ c.if-not-lengths_right.false) (omega arith))

pub returns-in_err-judge_given : goal.returns-in_err-judge_given
returns-in_err-judge_given c =
    let g = given_by c.args.self.now in
    let len : c.written_length-len.result ≡ written_length c.args.edition g = omega arith in
    let was = c.in_err-judge_given.was in
    let refused = given_refused c.args.edition g c.args.room c.if-edition-gt3.false (sym c.lengths_right.ensures ∙ c.if-not-lengths_right.false) len c.if-len-gt16777216.false refl (refused_by _ _ c.judge_given.ensures was) in
    passed_on _ _ (refuses _ tt was refused) _ c.from_residual.ensures was

pub returns-then-room-len : goal.returns-then-room-len
returns-then-room-len c =
    let g = given_by c.args.self.now in
    let len : c.written_length-len.result ≡ written_length c.args.edition g = omega arith in
    refuses _ _ c.refused-then-room-len.ensures
    (no_room _ g _ c.if-edition-gt3.false (sym c.lengths_right.ensures ∙ c.if-not-lengths_right.false) len c.if-len-gt16777216.false
    refl (accepted_by _ _ c.judge_given.ensures c.in_ok-judge_given.was) c.if-room-len.true)

pub returns : goal.returns
returns c =
    let g = given_by c.args.self.now in
    let right = sym c.lengths_right.ensures ∙ c.if-not-lengths_right.false in
    let len : c.written_length-len.result ≡ written_length c.args.edition g = omega arith in
    ap Ok (len ∙ sym (written_length_lem _ g right))
    ∙ accepts _ _ (all_right _ g _ c.if-edition-gt3.false right len c.if-len-gt16777216.false
    refl (accepted_by _ _ c.judge_given.ensures c.in_ok-judge_given.was) c.if-room-len.false)
