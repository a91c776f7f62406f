use mathlib.Core.Path.{refl, sym, ap}
use borrow.Author.Rules.{rules}
use Rattle.wire.proofs.Verdicts.{refuses, passed_on, accepts, accepted_by, refused_by, value_by}
use Rattle.part_table.specs.declared.PartHeader.{PartHeader}
use Rattle.part_table_layout.proofs.Filled.{filled_all}
use Rattle.part_table_layout.proofs.Judged.{name_is, walk_begin, walk_on, walk_stops, eight_refused, nine_is}
use Rattle.part_table_layout.proofs.Lookups.{same_refusal}
use Rattle.part_table_layout.proofs.Threes.{name_more}
use Rattle.part_table.proofs.find_parts.Goals as goal

pub loop-k-init : goal.loop-k-init
loop-k-init c = (walk_begin _ c.requires.0, refl)

pub part_header-requires : goal.part_header-requires
part_header-requires c = (search rules, c.loop-k.invariant.0.next)

pub returns-in_err-h : goal.returns-in_err-h
returns-in_err-h c =
    let told = refused_by _ _ c.part_header.ensures c.in_err-h.was in
    refuses _ _ (same_refusal _ c.from_residual.ensures) (eight_refused _ c.requires.0 (walk_stops _ c.loop-k.invariant.0 c.loop-k-test.true told))

pub loop-k-preserved : goal.loop-k-preserved
loop-k-preserved c =
    let inv = c.loop-k.invariant in
    let h = value_by _ _ c.part_header.ensures c.in_ok-h.was in
    let offset = ap (λ (q : PartHeader). q.offset) h in
    let size = ap (λ (q : PartHeader). q.size) h in (
      walk_on _ inv.0 c.loop-k-test.true (accepted_by _ _ c.part_header.ensures c.in_ok-h.was) offset size,
      name_more _ _ inv.1 (name_is _ _ offset c.u32_at.ensures),
    )

pub returns-in_err-judge_names : goal.returns-in_err-judge_names
returns-in_err-judge_names c =
    let inv = c.loop-k.invariant in
    let pre = c.requires in
    let nine = nine_is _ pre.0 pre.1 inv.0 c.loop-k-test.false inv.1 in
    passed_on _ _ (rw nine at c.judge_names.ensures) _ c.from_residual-in_err-judge_names.ensures c.in_err-judge_names.was

pub all_listed-requires : goal.all_listed-requires
all_listed-requires c =
    let inv = c.loop-k.invariant in
    let pre = c.requires in
    (pre.0, pre.1, filled_all _ inv.0.within c.loop-k-test.false inv.1)

pub returns : goal.returns
returns c =
    let inv = c.loop-k.invariant in
    let pre = c.requires in
    let nine = nine_is _ pre.0 pre.1 inv.0 c.loop-k-test.false inv.1 in
    rw c.all_listed.ensures (accepts _ _ (rw nine at (sym (accepted_by _ _ c.judge_names.ensures c.in_ok-judge_names.was))))
