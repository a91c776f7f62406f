use native.Mathlib.Omega.{arith}
use Rattle.lines.proofs.Lines.{nothing, line_shows, line_counts}
use Rattle.lines.proofs.told.Goals as goal

pub returns : goal.returns
returns c =
    let w = c.put.ensures in
    let n = c.put_numbers.ensures in
    let z = c.put-2.ensures in
    let e = w.len_after in
    let f = n.len_after in
    let g = z.len_after in
    let k = n.n_len_bound in
    let made = z.line_after _ (n.line_after _ (w.line_after _ nothing)) in
    record { value = made; len_bound = omega arith; prefix_len = line_counts _ made; shown = line_shows _ made }
