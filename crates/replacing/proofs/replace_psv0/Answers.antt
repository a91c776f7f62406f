use mathlib.Core.Path.{sym, ◌∙◌}
use native.Mathlib.Omega.{arith}
use Rattle.wire.proofs.Verdicts.{refused_by, accepted_by, value_by}
use Rattle.replacing_layout.proofs.Checks.{not_opened, refused_well, may_replace, never_refused, fits, room, replaces_psv}
use Rattle.replacing.proofs.replace_psv0.Goals as goal

pub returns-in_err-part : goal.returns-in_err-part
returns-in_err-part c =
    let p = c.args in
    refused_well p.edition p.b.now p.new.now p.out.now (not_opened p.edition p.b.now _ _ (sym c.part.ensures ∙ c.in_err-part.was)) c.from_residual.ensures

pub judge-requires : goal.judge-requires
judge-requires c = sym c.part.ensures ∙ c.in_ok-part.was

pub returns-in_err-len : goal.returns-in_err-len
returns-in_err-len c =
    let p = c.args in
    refused_well p.edition p.b.now p.new.now p.out.now (sym (refused_by _ _ c.judge.ensures c.in_err-len.was)) c.from_residual-in_err-len.ensures

pub returns-in_err-alone : goal.returns-in_err-alone
returns-in_err-alone c =
    let p = c.args in
    absurd (never_refused p.edition p.b.now p.new.now p.out.now (sym c.part.ensures ∙ c.in_ok-part.was) (accepted_by _ _ c.judge.ensures c.in_ok-len.was) c.open_places.ensures c.in_err-alone.was)

pub slice_bounds-write-end : goal.slice_bounds-write-end
slice_bounds-write-end c =
    let p = c.args in
    let f = fits p.edition p.b.now p.new.now p.out.now (sym c.part.ensures ∙ c.in_ok-part.was) (accepted_by _ _ c.judge.ensures c.in_ok-len.was) (value_by _ _ c.judge.ensures c.in_ok-len.was) in
    omega arith

pub write-requires : goal.write-requires
write-requires c =
    let p = c.args in
    let h = sym c.part.ensures ∙ c.in_ok-part.was in
    let a = accepted_by _ _ c.judge.ensures c.in_ok-len.was in
    (may_replace p.edition p.b.now p.new.now p.out.now h a, room p.edition p.b.now p.new.now p.out.now h a (value_by _ _ c.judge.ensures c.in_ok-len.was))

pub overflow_add-part : goal.overflow_add-part
overflow_add-part c =
    let p = c.args in
    let f = may_replace p.edition p.b.now p.new.now p.out.now (sym c.part.ensures ∙ c.in_ok-part.was) (accepted_by _ _ c.judge.ensures c.in_ok-len.was) in
    omega arith

pub overflow_cast-part : goal.overflow_cast-part
overflow_cast-part c =
    let p = c.args in
    let f = may_replace p.edition p.b.now p.new.now p.out.now (sym c.part.ensures ∙ c.in_ok-part.was) (accepted_by _ _ c.judge.ensures c.in_ok-len.was) in
    omega arith

pub returns : goal.returns
returns c =
    let p = c.args in
    replaces_psv p.edition p.b.now p.new.now p.out.now (sym c.part.ensures ∙ c.in_ok-part.was) (accepted_by _ _ c.judge.ensures c.in_ok-len.was)
    (value_by _ _ c.judge.ensures c.in_ok-len.was) c.open_places.ensures c.in_ok-alone.was c.write.ensures c.moved.ensures
