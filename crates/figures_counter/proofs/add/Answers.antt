use mathlib.Core.Path.{sym, ◌∙◌}
use native.Mathlib.Omega.{arith}
use Rattle.figures_layout.specs.Kinds.{answer_of}
use Rattle.figures_layout.proofs.Ranges.{number_in}
use Rattle.figures_counter.proofs.Answers.{full_answer, accepted_added, refused_added}
use Rattle.figures_counter.proofs.Steps.{in_range_lem, accepted_one, refused_one}
use Rattle.figures_counter.proofs.add.Goals as goal

pub returns-then-f-ge65535 : goal.returns-then-f-ge65535
returns-then-f-ge65535 c = full_answer c.args.f _ c.if-f-ge65535.true

pub count_accepted-requires : goal.count_accepted-requires
count_accepted-requires c = in_range_lem _ _ (sym c.told.ensures ∙ c.in-Ok.is)

pub count_refused-requires : goal.count_refused-requires
count_refused-requires c = omega (arith, (number_in _ _ (sym c.told.ensures ∙ c.in-Err.is)).1)

pub returns-in-Ok : goal.returns-in-Ok
unfolding answer_of
returns-in-Ok c =
    let f = c.args.f in
    let b = c.args.b.now in
    let k = sym c.told.ensures ∙ c.in-Ok.is in
    accepted_added f b c.if-f-ge65535.false (c.count_accepted.ensures ∙ accepted_one f (answer_of f.edition b) k (omega arith)) k

pub returns-in-Err : goal.returns-in-Err
returns-in-Err c =
    let f = c.args.f in
    let b = c.args.b.now in
    let k = sym c.told.ensures ∙ c.in-Err.is in
    refused_added f b c.if-f-ge65535.false (c.count_refused.ensures ∙ refused_one f (answer_of f.edition b) k) k
