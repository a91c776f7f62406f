use Prim.Native.Nat.{◌+◌}
use mathlib.Core.Path.{sym, ◌∙◌}
use native.Mathlib.Omega.{arith}
use Rattle.utf8.proofs.Stops.{past_none, past_one, past_two, past_three, follows_inside}
use Rattle.utf8.proofs.past.Goals as goal

pub returns-then-not-follows_at : goal.returns-then-not-follows_at
returns-then-not-follows_at c =
    let f = sym c.follows_at.ensures ∙ c.if-not-follows_at.true in
    (past_none c.args.t.now c.args.p f, omega arith, omega arith, c.requires)

pub returns-then-not-follows_at-2 : goal.returns-then-not-follows_at-2
returns-then-not-follows_at-2 c =
    let t = c.args.t.now in
    let f = sym c.follows_at.ensures ∙ c.if-not-follows_at.false in
    let g = sym c.follows_at-2.ensures ∙ c.if-not-follows_at-2.true in
    (past_one t c.args.p f g, omega arith, omega arith, omega (arith, follows_inside t c.args.p f))

pub returns-then-not-follows_at-3 : goal.returns-then-not-follows_at-3
returns-then-not-follows_at-3 c =
    let t = c.args.t.now in
    let f = sym c.follows_at.ensures ∙ c.if-not-follows_at.false in
    let g = sym c.follows_at-2.ensures ∙ c.if-not-follows_at-2.false in
    let h = sym c.follows_at-3.ensures ∙ c.if-not-follows_at-3.true in
    (past_two t c.args.p f g h, omega arith, omega arith, omega (arith, follows_inside t (c.args.p + 1) g))

pub returns : goal.returns
returns c =
    let t = c.args.t.now in
    let f = sym c.follows_at.ensures ∙ c.if-not-follows_at.false in
    let g = sym c.follows_at-2.ensures ∙ c.if-not-follows_at-2.false in
    let h = sym c.follows_at-3.ensures ∙ c.if-not-follows_at-3.false in
    (past_three t c.args.p f g h, omega arith, omega arith, omega (arith, follows_inside t (c.args.p + 2) h))
