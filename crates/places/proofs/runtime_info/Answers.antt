use borrow.Author.Tests.{leb-true}
use mathlib.Core.Path.{◌∙◌}
use Rattle.wire.proofs.Verdicts.{passed_on}
use Rattle.places.proofs.Queries.{told_inside, info_told, info_found}
use Rattle.places.proofs.runtime_info.Goals as goal

pub returns-in_err-inside : goal.returns-in_err-inside
returns-in_err-inside c = passed_on _ _ c.inside.ensures _ c.from_residual.ensures c.in_err-inside.was ∙ info_told _ _ _ c.edition_size-n.ensures

pub slice_bounds-record-end : goal.slice_bounds-record-end
slice_bounds-record-end c = leb-true _ _ (told_inside _ _ c.inside.ensures c.in_ok-inside.was)

pub returns : goal.returns
returns c = info_found _ _ _ c.edition_size-n.ensures _ (told_inside _ _ c.inside.ensures c.in_ok-inside.was) c.info.ensures
