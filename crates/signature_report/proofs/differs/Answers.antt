use native.Mathlib.Omega.{arith}
use Rattle.signature_report_layout.proofs.Steps.{passed_over, missing, compared, place_inside}
use Rattle.signature_report.proofs.differs.Goals as goal

pub returns-then-o-eq0 : goal.returns-then-o-eq0
returns-then-o-eq0 c =
    passed_over _ _ _ _ _ _ _ c.u32_at.ensures c.u32_at-o.ensures c.if-o-eq0.true

pub returns-then-size-i : goal.returns-then-size-i
returns-then-size-i c =
    missing _ _ _ _ _ _ _ c.u32_at.ensures c.u32_at-o.ensures c.if-o-eq0.false c.if-size-i.true

pub overflow_mul-before : goal.overflow_mul-before
overflow_mul-before c =
    omega (arith, place_inside c.args.i c.args.w c.args.before c.args.size _ (omega (arith, c.if-size-i.false)) c.requires.1)

pub returns : goal.returns
returns c =
    let f = c.args in
    compared f.d.now f.i f.t.now f.e.now f.before f.size f.w c.u32_at.ensures c.u32_at-o.ensures c.if-o-eq0.false c.if-size-i.false c.u32_at-2.ensures c.same.ensures
