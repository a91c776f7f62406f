use mathlib.Core.Path.{◌∙◌, sym}
use native.Mathlib.Omega.{arith}
use lib.Seq.{length-take-le}
use Rattle.wire.proofs.Verdicts.{passed_on}
use Rattle.psv0_writer_layout.proofs.Checks.{kept, len_told, within_limit, within_room, filled}
use Rattle.psv0_writer.specs.Sections.{given_by}
use Rattle.psv0_writer.proofs.Sections.write.Goals as goal

pub slice_bounds-write_sections-end : goal.slice_bounds-write_sections-end
slice_bounds-write_sections-end c =
    let r = within_room c.args.edition (given_by c.args.self.now) c.args.out.now c.judge.ensures c.in_ok-written.was in
    omega arith

pub slice_bounds-write_sections-end-2 : goal.slice_bounds-write_sections-end-2
slice_bounds-write_sections-end-2 c =
    let r = within_room c.args.edition (given_by c.args.self.now) c.args.out.now c.judge.ensures c.in_ok-written.was in
    sym (length-take-le _ _ (omega arith))

pub write_sections-requires : goal.write_sections-requires
write_sections-requires c =
    let e = c.args.edition in
    let g = given_by c.args.self.now in
    let o = c.args.out.now in
    let h = c.judge.ensures in
    let q = length-take-le c.in_ok-written.written o (within_room e g o h c.in_ok-written.was) in
    (q ∙ len_told e g o h c.in_ok-written.was, rw q (within_limit e g o h c.in_ok-written.was))

pub returns-in_err-written : goal.returns-in_err-written
returns-in_err-written c =
    record {
      answered = passed_on _ _ c.judge.ensures _ c.from_residual.ensures c.in_err-written.was;
      left = kept _ _ _ c.judge.ensures c.in_err-written.was;
    }

pub returns : goal.returns
returns c =
    record {
      answered = sym c.in_ok-written.was ∙ c.judge.ensures;
      left = filled _ _ _ c.judge.ensures c.in_ok-written.was c.write_sections.ensures;
    }
