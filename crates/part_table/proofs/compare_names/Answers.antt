use mathlib.Core.Path.{sym}
use native.Mathlib.Omega.{arith}
use Rattle.wire.proofs.Verdicts.{refuses, accepts}
use Rattle.part_table_layout.proofs.Counting.{compare_begin, compared_few, compare_done, list_on, list_below, list_stops, list_ends}
use Rattle.part_table.proofs.compare_names.Goals as goal

pub loop-k-init : goal.loop-k-init
loop-k-init c = compare_begin _

pub overflow_add-result : goal.overflow_add-result
overflow_add-result c =
    omega (arith, compared_few _ c.loop-k.invariant c.requires, list_below _ c.loop-k.invariant c.loop-k-test.true c.walk.ensures c.in-Some.is)

pub overflow_add-result-in-Some : goal.overflow_add-result-in-Some
overflow_add-result-in-Some c =
    omega (arith, compared_few _ c.loop-k.invariant c.requires, list_below _ c.loop-k.invariant c.loop-k-test.true c.walk.ensures c.in-Some.is)

pub returns-in-Some : goal.returns-in-Some
returns-in-Some c =
    let w = c.loop-k.invariant in
    let less = c.loop-k-test.true in
    let found = c.in-Some.is in
    (refuses _ _ c.refused.ensures (sym (list_stops _ w less c.walk.ensures found)), list_ends _ w less c.walk.ensures found)

pub overflow_add-pairs : goal.overflow_add-pairs
overflow_add-pairs c =
    omega (arith, compared_few _ c.loop-k.invariant c.requires, c.loop-k-test.true, c.requires)

pub loop-k-preserved : goal.loop-k-preserved
loop-k-preserved c = list_on _ c.loop-k.invariant c.loop-k-test.true c.walk.ensures c.in_default.is

pub returns : goal.returns
returns c =
    let done = compare_done _ c.loop-k.invariant c.loop-k-test.false in
    (accepts _ _ (sym done.0), done.1)
