use mathlib.Core.Path.{◌∙◌, ap}
use mathlib.Core.List.{◌++◌}
use native.Mathlib.Omega.{arith}
use Rattle.lines.specs.Line.{line_of}
use Rattle.lines.proofs.Numbers.{spelled, spelled_length, spelled_short}
use Rattle.lines.proofs.put_number.Goals as goal

pub returns : goal.returns
returns c =
    let d = c.decimal-k.ensures in
    let is = spelled _ _ _ d.len d.digits in
    let l = spelled_length _ _ _ d.len d.digits in
    let k = spelled_short _ _ _ d.len d.digits (omega arith) in
    let put = c.put.ensures in
    record {
      line_after = λ t e. put.line_after t e ∙ ap (λ u. line_of (t ++ u)) is;
      len_after = rw (← is) put.len_after;
      n_len_bound = omega arith;
    }
