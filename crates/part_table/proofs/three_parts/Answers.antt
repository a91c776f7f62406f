use mathlib.Core.Path.{◌∙◌}
use borrow.Author.Rules.{rules}
use Rattle.wire.proofs.Verdicts.{refuses, accepted_by, refused_by}
use Rattle.part_table_layout.specs.Table.{count_of}
use Rattle.part_table_layout.specs.Three.{three_of}
use Rattle.part_table_layout.proofs.Accepted.{header_told}
use Rattle.part_table_layout.proofs.Lookups.{same_refusal}
use Rattle.part_table_layout.proofs.Threes.{header_refuses, header_passes}
use Rattle.part_table.proofs.three_parts.Goals as goal

pub returns-in_err-judge_header : goal.returns-in_err-judge_header
unfolding three_of
returns-in_err-judge_header c =
    let told = refused_by _ _ c.judge_header.ensures c.in_err-judge_header.was in
    refuses _ _ (same_refusal _ c.from_residual.ensures) (header_refuses _ told)

pub find_parts-requires : goal.find_parts-requires
unfolding count_of
find_parts-requires c =
    let h = header_told _ (accepted_by _ _ c.judge_header.ensures c.in_ok-judge_header.was) in
    rw c.u32_at.ensures (search rules, h.few)

pub returns : goal.returns
returns c =
    c.find_parts.ensures ∙ header_passes _ _ _ _ (accepted_by _ _ c.judge_header.ensures c.in_ok-judge_header.was)
