use native.Mathlib.Omega.{arith}
use mathlib.Core.Path.{◌∙◌, ap}
use Rattle.part_table_layout.specs.Lookup.{part_at}
use Rattle.part_table_layout.specs.Table.{count_of}
use Rattle.part_table_layout.proofs.Lookups.{capped, listed_is}
use Rattle.part_table.proofs.search_again.Goals as goal

pub names_listed-names-requires : goal.names_listed-names-requires
names_listed-names-requires c = omega (arith, c.min-count.ensures)

pub listed-requires : goal.listed-requires
listed-requires c =
    (omega (arith, c.min-count.ensures), c.names_listed-names.ensures)

pub returns : goal.returns
unfolding count_of
returns c =
    c.listed.ensures ∙ ap (part_at _) (listed_is _ c.u32_at.ensures (capped c.min-count.ensures) _ _)
