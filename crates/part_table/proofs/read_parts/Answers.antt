use mathlib.Core.Path.{sym, ◌∙◌, ap}
use native.Mathlib.Omega.{arith}
use borrow.Author.Rules.{rules}
use Rattle.wire.specs.Verdict.{under, verdict_of}
use Rattle.wire.proofs.Sums.{count_begin}
use Rattle.wire.proofs.Verdicts.{accepted_by, refused_by, value_by}
use Rattle.part_table.specs.declared.PartHeader.{PartHeader}
use Rattle.part_table_layout.specs.declared.Table.{Table}
use Rattle.part_table_layout.proofs.Accepted.{part_told}
use Rattle.part_table_layout.proofs.Counting.{eight_pairs, nine_pairs}
use Rattle.part_table_layout.proofs.Judged.{name_is, gap_is, walk_begin, walk_on, walk_stops, eight_refused, nine_is}
use Rattle.part_table_layout.proofs.Occurrences.{repeats_few, repeats_more, counted_here}
use Rattle.part_table_layout.proofs.Readings.{entry_more, none_shown, all_shown}
use Rattle.part_table.proofs.read_parts.Goals as goal

pub loop-i-init : goal.loop-i-init
unfolding under verdict_of
loop-i-init c =
    let pre = c.requires in
    (walk_begin _ pre.0, rw (c.empty-t.ensures, pre.0), sym (count_begin _))

pub part_header-requires : goal.part_header-requires
part_header-requires c = (search rules, c.loop-i.invariant.0.next)

pub returns-in-Err : goal.returns-in-Err
returns-in-Err c =
    let told = refused_by _ _ c.part_header.ensures c.in-Err.is in
    let stop = walk_stops _ c.loop-i.invariant.0 c.loop-i-test.true told in
    let count = c.requires.0 in
    let none = eight_pairs _ c.args.counting count stop in
    c.refused.ensures ∙ none_shown _ none _ (sym (eight_refused _ count stop))

pub overflow_sub-t : goal.overflow_sub-t
overflow_sub-t c =
    let h = value_by _ _ c.part_header.ensures c.in-Ok.is in
    let fits = part_told _ _ (accepted_by _ _ c.part_header.ensures c.in-Ok.is) in
    omega (arith, fits.start, ap (λ (q : PartHeader). q.offset) h, c.loop-i.invariant.0.next)

pub repeats_with-repeats-requires : goal.repeats_with-repeats-requires
repeats_with-repeats-requires c =
    let pre = c.requires in
    omega (arith, repeats_few _ c.loop-i.invariant.2, c.loop-i-test.true, pre.1)

pub loop-i-preserved : goal.loop-i-preserved
loop-i-preserved c =
    let inv = c.loop-i.invariant in
    let h = value_by _ _ c.part_header.ensures c.in-Ok.is in
    let offset = ap (λ (q : PartHeader). q.offset) h in
    let size = ap (λ (q : PartHeader). q.size) h in
    let x = name_is _ _ offset c.u32_at-x.ensures in (
      walk_on _ inv.0 c.loop-i-test.true (accepted_by _ _ c.part_header.ensures c.in-Ok.is) offset size,
      entry_more _ _ _ _ inv.1 x offset size (c.occurrence_after.ensures ∙ counted_here _ inv.2 x) (gap_is _ _ offset inv.0.next),
      c.repeats_with-repeats.ensures ∙ repeats_more _ inv.2 x,
    )

pub returns-in-Err-judged : goal.returns-in-Err-judged
returns-in-Err-judged c =
    let checked = c.check_names-c.ensures in
    let inv = c.loop-i.invariant in
    let pre = c.requires in
    let names = ap (λ (u : Table). u.names) inv.1 in
    let nine = nine_is _ pre.0 pre.1 inv.0 c.loop-i-test.false names in
    let pairs = nine_pairs _ c.args.counting pre.0 pre.1 inv.0 c.loop-i-test.false names in
    c.refused-in-Err-judged.ensures ∙ none_shown _ (checked.1 ∙ pairs) _ (sym nine ∙ refused_by _ _ checked.0 c.in-Err-judged.is)

pub returns : goal.returns
returns c =
    let checked = c.check_names-c.ensures in
    let inv = c.loop-i.invariant in
    let pre = c.requires in
    let names = ap (λ (u : Table). u.names) inv.1 in
    let nine = nine_is _ pre.0 pre.1 inv.0 c.loop-i-test.false names in
    let pairs = nine_pairs _ c.args.counting pre.0 pre.1 inv.0 c.loop-i-test.false names in
    all_shown _ (checked.1 ∙ pairs) _ (sym nine ∙ accepted_by _ _ checked.0 c.in_default.is) pre.0 inv.0 c.loop-i-test.false inv.1
