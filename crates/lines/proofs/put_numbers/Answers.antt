use mathlib.Core.Path.{◌∙◌, ap}
use native.Mathlib.Omega.{arith}
use Rattle.lines.specs.Line.{line_of}
use Rattle.lines.proofs.Lines.{numbers_end, numbers_short, numbers_put}
use Rattle.lines.proofs.put_numbers.Goals as goal

pub returns : goal.returns
returns c =
    let a = c.put_number.ensures in
    let s = c.put.ensures in
    let b = c.put_number-2.ensures in
    let e = a.len_after in
    let f = s.len_after in
    let g = b.len_after in
    record {
      line_after = λ t h. b.line_after _ (s.line_after _ (a.line_after t h)) ∙ ap line_of (numbers_put _ _ t);
      len_after = numbers_end _ _ _ e (omega arith);
      n_len_bound = numbers_short _ _ a.n_len_bound b.n_len_bound;
    }
