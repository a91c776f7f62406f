use Rattle.std.specs.Prelude.{Ok}
use mathlib.Core.Path.{refl, ap, ◌∙◌}
use native.Mathlib.Omega.{arith}
use Rattle.wire.proofs.Verdicts.{refuses, accepts, refused_by, accepted_by}
use Rattle.container_layout.specs.Container.{psv0}
use Rattle.container_layout.proofs.Parts.{part_fits}
use Rattle.replacing_layout.proofs.Checks.{refused_as, not_plain, long, too_long, no_room, all_pass}
use Rattle.replacing.proofs.judge.Goals as goal

pub returns-in_err-judge_new : goal.returns-in_err-judge_new
returns-in_err-judge_new c =
    refused_as _ _ (not_plain _ _ c.requires _ _ (refused_by _ _ c.judge_new.ensures c.in_err-judge_new.was)) c.from_residual.ensures

pub overflow_sub-len : goal.overflow_sub-len
overflow_sub-len c = omega (arith, part_fits c.args.edition c.args.b.now psv0 0 refl c.requires)

pub returns-then-len-gt16777216 : goal.returns-then-len-gt16777216
returns-then-len-gt16777216 c =
    refuses _ _ c.refused.ensures (too_long _ _ c.requires _ _ (accepted_by _ _ c.judge_new.ensures c.in_ok-judge_new.was) refl c.if-len-gt16777216.true)

pub returns-then-room-len : goal.returns-then-room-len
returns-then-room-len c =
    refuses _ _ c.refused-then-room-len.ensures
    (no_room _ _ c.requires _ _ (accepted_by _ _ c.judge_new.ensures c.in_ok-judge_new.was) refl c.if-len-gt16777216.false c.if-room-len.true)

pub returns : goal.returns
returns c =
    let plain = accepted_by _ _ c.judge_new.ensures c.in_ok-judge_new.was in
    ap Ok (long _ _ c.requires c.args.new.now c.args.room plain refl) ∙ accepts _ _ (all_pass _ _ c.requires _ _ plain refl c.if-len-gt16777216.false c.if-room-len.false)
