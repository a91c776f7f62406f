use borrow.Author.Tests.{leb-true}
use mathlib.Core.Path.{◌∙◌}
use Rattle.wire.proofs.Verdicts.{passed_on}
use Rattle.places_layout.proofs.Calls.{no_resource}
use Rattle.places.proofs.Queries.{told_inside, resource_long, resource_told, resource_found}
use Rattle.places.proofs.resource.Goals as goal

pub returns-then-p-i : goal.returns-then-p-i
returns-then-p-i c = c.refused.ensures ∙ no_resource _ _ _ c.if-p-i.true

pub returns-in_err-inside : goal.returns-in_err-inside
returns-in_err-inside c =
    passed_on _ _ c.inside.ensures _ c.from_residual.ensures c.in_err-inside.was
    ∙ resource_told _ _ _ _ _ c.if-p-i.false c.row_place-at.ensures c.resource_width-n.ensures

pub slice_bounds-resource_at-end : goal.slice_bounds-resource_at-end
slice_bounds-resource_at-end c = leb-true _ _ (told_inside _ _ c.inside.ensures c.in_ok-inside.was)

pub resource_at-requires : goal.resource_at-requires
resource_at-requires c = resource_long c.args.b.now c.row_place-at.result c.resource_width-n.result c.args.p.edition c.args.p.resource_size c.resource_width-n.ensures (leb-true _ _ (told_inside _ _ c.inside.ensures c.in_ok-inside.was))

pub returns : goal.returns
returns c = resource_found _ _ _ _ _ c.if-p-i.false c.row_place-at.ensures c.resource_width-n.ensures _ (told_inside _ _ c.inside.ensures c.in_ok-inside.was) c.resource_at.ensures
