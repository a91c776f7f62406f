use mathlib.Core.Path.{refl, sym, ◌∙◌}
use native.Mathlib.Omega.{arith}
use Rattle.wire.proofs.Verdicts.{refuses, accepts}
use Rattle.signature_layout.proofs.Signatures.{unnamed, named_good, named_cut, named_ill}
use Rattle.signature.proofs.judge_name.Goals.{then-o-eq0-via-then-o-eq0, then-o-eq0-via-else-o-eq0+then-is_good, then-len-o-via-then-len-o, then-len-o-via-else-len-o+then-len-o-2}
use Rattle.signature.proofs.judge_name.Goals as goal

pub returns-then-o-eq0 : goal.returns-then-o-eq0
returns-then-o-eq0 c =
    elim c.then-o-eq0.branch [
      | then-o-eq0-via-then-o-eq0 w ↦ accepts _ _ (unnamed _ _ c.name_offset-o.ensures w.if-o-eq0.true)
      | then-o-eq0-via-else-o-eq0+then-is_good w ↦
          accepts _ _ (named_good _ _ c.name_offset-o.ensures w.if-o-eq0.false (sym w.is_good.ensures ∙ w.if-is_good.true))
    ]

pub returns-then-len-o : goal.returns-then-len-o
returns-then-len-o c =
    elim c.then-len-o.branch [
      | then-len-o-via-then-len-o w ↦
          refuses _ _ c.refused.ensures (named_cut _ _ c.name_offset-o.ensures c.if-o-eq0.false refl (omega (arith, w.if-len-o.true)))
      | then-len-o-via-else-len-o+then-len-o-2 w ↦
          refuses _ _ c.refused.ensures (named_cut _ _ c.name_offset-o.ensures c.if-o-eq0.false w.len_at.ensures (omega (arith, w.if-len-o-2.true)))
    ]

pub returns : goal.returns
returns c =
    refuses _ _ c.refused-2.ensures
    (named_ill _ _ c.name_offset-o.ensures c.if-o-eq0.false c.len_at.ensures (omega (arith, c.if-len-o-2.false, c.if-len-o.false))
    (sym c.is_good.ensures ∙ c.if-is_good.false))
