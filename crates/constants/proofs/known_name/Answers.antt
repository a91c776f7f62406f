use mathlib.Core.Path.{◌∙◌}
use borrow.Author.Rules.{rules}
use lib.Dec.{eqb}
use Rattle.std.proofs.Common.{tests}
use Rattle.std.proofs.lemmas.Iterator.{YieldsList-from_slice}
use Rattle.std.proofs.lemmas.Iterator.Search.{any_from_yields_List}
use Rattle.wire.specs.Number.{u32_at}
use Rattle.constants.specs.Name.{part_names}
use Rattle.constants.proofs.Names.{any_known}
use Rattle.constants.proofs.known_name.Goals as goal

pub returns : goal.returns
returns c =
    any_from_yields_List (λ r. eqb (u32_at r 0) c.args.name) _ _ _ c.any.ensures.ran (YieldsList-from_slice part_names cc) (λ x b q k. search (rules, tests))
    ∙ any_known c.args.name
