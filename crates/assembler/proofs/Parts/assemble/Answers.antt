use native.Mathlib.Omega.{arith}
use mathlib.Core.Path.{◌∙◌, sym}
use Rattle.wire.proofs.Verdicts.{passed_on}
use Rattle.assembler_layout.proofs.Answers.{kept, len_fits, passed_is, written}
use Rattle.assembler.proofs.Parts.assemble.Goals as goal

pub slice_bounds-write-end : goal.slice_bounds-write-end
slice_bounds-write-end c =
    omega (arith, len_fits _ c.args.out.now c.judge.ensures c.in_ok-len.was)

pub write-requires : goal.write-requires
write-requires c = passed_is _ _ c.judge.ensures c.in_ok-len.was

pub returns-in_err-len : goal.returns-in_err-len
returns-in_err-len c =
    record {
      value = passed_on _ _ c.judge.ensures _ c.from_residual.ensures c.in_err-len.was;
      out_after = kept _ _ c.judge.ensures c.in_err-len.was;
    }

pub returns : goal.returns
returns c =
    record {
      value = sym c.in_ok-len.was ∙ c.judge.ensures;
      out_after = written _ _ c.judge.ensures c.in_ok-len.was c.write.ensures;
    }
