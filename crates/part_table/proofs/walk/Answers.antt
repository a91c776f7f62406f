use mathlib.Core.Bool.{◌&&◌, not}
use mathlib.Core.Path.{◌∙◌}
use lib.Dec.{eqb}
use Prim.Native.Nat.{ℕ}
use borrow.Author.Rules.{rules}
use Rattle.std.proofs.Common.{tests}
use Rattle.std.proofs.lemmas.Iterator.{YieldsList-from_slice}
use Rattle.std.proofs.lemmas.Iterator.Search.{position_from_yields_List}
use Rattle.part_table_layout.proofs.Counting.{positioned, walk_is}
use Rattle.part_table.proofs.walk.Goals as goal

pub returns : goal.returns
returns c =
    let p = λ (y : ℕ). eqb y c.args.x && not c.may_repeat-repeats.result in
    position_from_yields_List p _ _ _ c.position.ensures.ran (YieldsList-from_slice c.args.names.now cc) (λ x b q k. search (rules, tests))
    ∙ positioned p c.args.names.now
    ∙ walk_is _ _ c.may_repeat-repeats.ensures
