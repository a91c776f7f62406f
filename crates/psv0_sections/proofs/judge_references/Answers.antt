use Rattle.psv0_layout.specs.Layout.{seen, sections}
use Rattle.psv0_sections.proofs.Opening.{strings_read, indices_read, elements_read, entry_read}
use Rattle.psv0_sections.proofs.judge_references.Goals as goal

pub returns : goal.returns
returns c =
    rw (c.u32_at.ensures, entry_read _ c.args.p c.requires.0 _ c.requires.1)
    at (c.judge.ensures (seen 1 (sections c.args.d.now)).body (strings_read _ c.args.p c.requires.0) (indices_read _ c.args.p c.requires.0) (elements_read _ c.args.p c.requires.0))
