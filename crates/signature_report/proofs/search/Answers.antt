use mathlib.Core.Path.{sym, ◌∙◌}
use native.Mathlib.Omega.{arith}
use Rattle.wire.proofs.Searches.{begin, more}
use Rattle.signature_layout.proofs.Signatures.{element_inside_lem}
use Rattle.signature_report_layout.proofs.Steps.{found_first, found_none}
use Rattle.signature_report.proofs.search.Goals as goal

pub loop-i-init : goal.loop-i-init
loop-i-init c = begin _ _

pub differs-requires : goal.differs-requires
differs-requires c =
    (element_inside_lem _ c.requires.0 _ (omega (arith, c.u32_at-i-end.ensures, c.loop-i-test.true)), c.requires.1, c.requires.2)

pub returns-then-differs : goal.returns-then-differs
returns-then-differs c =
    found_first _ _ c.u32_at-i-end.ensures c.loop-i.invariant c.loop-i-test.true (sym c.differs.ensures ∙ c.if-differs.true)

pub loop-i-preserved : goal.loop-i-preserved
loop-i-preserved c =
    more _ _ c.loop-i.invariant (omega (arith, c.u32_at-i-end.ensures, c.loop-i-test.true)) (sym c.differs.ensures ∙ c.if-differs.false)

pub returns : goal.returns
returns c = found_none _ _ c.u32_at-i-end.ensures c.loop-i.invariant (omega (arith, c.loop-i-test.false))
