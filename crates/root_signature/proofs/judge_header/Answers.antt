use Rattle.wire.proofs.Verdicts.{refuses, accepts}
use Rattle.root_signature_layout.proofs.Steps.{short_header, known_version, other_version}
use Rattle.root_signature.proofs.judge_header.Goals as goal

pub returns-then-d-lt24 : goal.returns-then-d-lt24
returns-then-d-lt24 c = refuses _ _ c.refused.ensures (short_header _ c.if-d-lt24.true)

pub returns-then-version-ne2 : goal.returns-then-version-ne2
returns-then-version-ne2 c =
    refuses _ _ c.refused-then-version-ne2.ensures
    (other_version _ c.if-d-lt24.false c.u32_at-version.ensures c.if-version-ne1.true c.if-version-ne2.true)

pub returns : goal.returns
returns c =
    accepts _ _ (known_version _ c.if-d-lt24.false c.u32_at-version.ensures c.else-version-ne1.either)
