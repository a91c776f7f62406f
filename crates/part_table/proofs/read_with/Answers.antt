use mathlib.Core.Path.{◌∙◌}
use borrow.Author.Rules.{rules}
use Rattle.wire.proofs.Verdicts.{accepted_by, refused_by}
use Rattle.part_table_layout.specs.Table.{count_of}
use Rattle.part_table_layout.proofs.Accepted.{header_told}
use Rattle.part_table_layout.proofs.Counting.{header_pairs, parts_pairs}
use Rattle.part_table_layout.proofs.Readings.{header_refused, header_accepted}
use Rattle.part_table.proofs.read_with.Goals as goal

pub read_parts-requires : goal.read_parts-requires
unfolding count_of
read_parts-requires c =
    let h = header_told _ (accepted_by _ _ c.judge_header.ensures c.in_default.is) in
    rw c.u32_at.ensures (search rules, h.few)

pub returns-in-Err : goal.returns-in-Err
returns-in-Err c =
    let told = refused_by _ _ c.judge_header.ensures c.in-Err.is in
    let none = header_pairs _ c.args.counting told in
    c.refused.ensures ∙ header_refused _ none _ told

pub returns : goal.returns
returns c =
    let told = accepted_by _ _ c.judge_header.ensures c.in_default.is in
    let all = parts_pairs _ c.args.counting told in
    c.read_parts.ensures ∙ header_accepted _ all _ told
