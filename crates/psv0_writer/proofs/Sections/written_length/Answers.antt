use mathlib.Core.Path.{◌∙◌, sym, ap}
use native.Mathlib.Omega.{arith}
use Rattle.psv0_writer_layout.specs.Answer.{capped}
use Rattle.psv0_writer_layout.proofs.Sections.{head_only_lem, head_and_body}
use Rattle.psv0_writer.specs.Sections.{given_by}
use Rattle.psv0_writer.proofs.Sections.written_length.Goals as goal

pub returns-then-edition-eq0 : goal.returns-then-edition-eq0
returns-then-edition-eq0 c =
    let g = given_by c.args.self.now in
    c.head_length-head.ensures ∙ ap capped (sym (head_only_lem c.args.edition g c.if-edition-eq0.true))

pub returns : goal.returns
returns c =
    let g = given_by c.args.self.now in
    let q = head_and_body c.args.edition g c.if-edition-eq0.false in
    omega arith
