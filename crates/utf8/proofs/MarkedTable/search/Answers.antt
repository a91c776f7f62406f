use mathlib.Core.Path.{◌≡◌, ◌∙◌}
use native.Mathlib.Omega.{arith}
use Rattle.wire.proofs.Searches.{begin, more, found, none}
use Rattle.utf8.specs.Referred.{first_ill}
use Rattle.utf8.proofs.Records.{place_begin, place_more, record_read, last_read, ill, ill_is}
use Rattle.psv0_layout.specs.Position.{reference_at}
use Rattle.utf8.proofs.MarkedTable.search.Goals as goal
use Rattle.utf8.proofs.MarkedTable.search.Goals.{then-i-r, else-i-r}

pub loop-i-init : goal.loop-i-init
loop-i-init c = let r = c.args.r.now in (place_begin r.records.now r.stride, begin _ _)

-- the reference that was read is that of this number, so the test of that number is what `passes` said
pub returns-then-not-passes : goal.returns-then-not-passes
unfolding first_ill
returns-then-not-passes c =
    let r = c.args.r.now in
    let t = c.args.self.now.bytes.now in
    let e = r.records.now in
    let l = c.loop-i in
    let read : c.if-i-r.o ≡ reference_at e r.stride r.count r.last l.i =
    elim c.if-i-r.branch [
      | then-i-r w ↦ record_read e r.stride _ r.last _ _ _ l.invariant.0 w.if-i-r.true (w.o-is ∙ w.u32_at.ensures)
      | else-i-r w ↦ last_read e r.stride r.count r.last l.i _ (omega (arith, w.if-i-r.false)) w.o-is
    ] in
    let judged = ill_is t r.free e r.stride r.count r.last l.i _ c.passes.result read c.passes.ensures in
    found (ill t r.free e r.stride r.count r.last) r.len l.invariant.1 (omega arith) (rw c.if-not-passes.true at judged)

pub loop-i-preserved : goal.loop-i-preserved
loop-i-preserved c =
    let r = c.args.r.now in
    let t = c.args.self.now.bytes.now in
    let e = r.records.now in
    let l = c.loop-i in
    let read : c.if-i-r.o ≡ reference_at e r.stride r.count r.last l.i =
    elim c.if-i-r.branch [
      | then-i-r w ↦ record_read e r.stride _ r.last _ _ _ l.invariant.0 w.if-i-r.true (w.o-is ∙ w.u32_at.ensures)
      | else-i-r w ↦ last_read e r.stride r.count r.last l.i _ (omega (arith, w.if-i-r.false)) w.o-is
    ] in
    let judged = ill_is t r.free e r.stride r.count r.last l.i _ c.passes.result read c.passes.ensures in (
      place_more e r.stride _ _ _ l.invariant.0 (omega (arith, c.min-at.ensures, c.saturating_add.ensures)),
      more (ill t r.free e r.stride r.count r.last) r.len l.invariant.1 (omega arith) (rw c.if-not-passes.false at judged),
    )

pub returns : goal.returns
unfolding first_ill
returns c =
    let r = c.args.r.now in
    let q : r.len ≡ c.loop-i.i = omega (arith, c.loop-i.auto.i-end, c.loop-i-test.false) in
    q ∙ none (ill c.args.self.now.bytes.now r.free r.records.now r.stride r.count r.last) r.len c.loop-i.invariant.1 (omega (arith, c.loop-i.auto.i-end))
