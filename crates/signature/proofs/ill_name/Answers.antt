use Rattle.utf8.specs.Referred.{passes, first_ill}
use Rattle.signature_layout.specs.Signature.{name_good}
use Rattle.signature_layout.proofs.Signatures.{decided_none, decided_plain, decided_search}
use Rattle.signature.proofs.ill_name.Goals.{then-count-eq0-via-then-count-eq0, then-count-eq0-via-else-count-eq0+then-plain_from}
use Rattle.signature.proofs.ill_name.Goals as goal

pub returns-then-count-eq0 : goal.returns-then-count-eq0
returns-then-count-eq0 c =
    elim c.then-count-eq0.branch [
      | then-count-eq0-via-then-count-eq0 w ↦ decided_none _ c.u32_at-count.ensures w.if-count-eq0.true
      | then-count-eq0-via-else-count-eq0+then-plain_from w ↦
          decided_plain _ c.u32_at-count.ensures c.requires.1 c.least_name-least.ensures (w.plain_from.ensures.0 w.if-plain_from.true)
    ]

pub returns : goal.returns
unfolding passes first_ill name_good
returns c = decided_search c.args.d.now c.u32_at-count.ensures c.u32_at-first.ensures c.first_ill.ensures
