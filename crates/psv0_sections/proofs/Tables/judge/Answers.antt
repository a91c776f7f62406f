use mathlib.Core.Path.{◌≡◌, ◌∙◌}
use Rattle.wire.specs.Verdict.{◌then◌}
use Rattle.wire.proofs.Verdicts.{accepted_by}
use Rattle.psv0_layout.specs.Layout.{Body}
use Rattle.psv0_layout.specs.Position.{Decided, reference_at, reference_total}
use Rattle.psv0_layout.proofs.Judgements.{tables_judging, entry_decided}
use Rattle.psv0_sections.proofs.Opening.{first_passed}
use Rattle.psv0_sections.proofs.Tables.judge.Goals as goal
use Rattle.psv0_sections.proofs.Tables.judge.Goals.{After-first_ill-ill}

-- the names are decided by the string table that was read once
names : (c : After-first_ill-ill) → (b : Body) → b.strings ≡ c.args.self.now.strings.now
    → Decided b.strings (reference_at c.args.self.now.elements.now c.args.self.now.stride c.args.self.now.count c.args.self.now.entry)
    (reference_total c.args.self.now.edition c.args.self.now.count) c.end_of-end.result c.first_ill-ill.result
names c b es = rw (es, ← c.reference_total.ensures) (c.first_ill-ill.ensures _ c.end_of-end.ensures)

pub returns-in_err-judge_elements : goal.returns-in_err-judge_elements
returns-in_err-judge_elements c =
    λ b es ex ee.
    let q = names (goal.at.returns-in_err-judge_elements c).After-first_ill-ill b es in
    first_passed _ _ _ (c.judge_elements.ensures b (tables_judging _ _ _ _ _ _ _ _ b ee ex q)) _ c.from_residual.ensures c.in_err-judge_elements.was

pub returns : goal.returns
returns c =
    λ b es ex ee.
    let q = names (goal.at.returns c).After-first_ill-ill b es in
    let a = accepted_by _ _ (c.judge_elements.ensures b (tables_judging _ _ _ _ _ _ _ _ b ee ex q)) c.in_ok-judge_elements.was in
    c.judge_entry.ensures ∙ unfold ◌then◌ in rw (a, rw es at (entry_decided _ _ _ _ _ _ _ _ b ee ex q a))
