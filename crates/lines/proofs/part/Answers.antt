use mathlib.Core.Path.{sym, ◌∙◌, ap}
use native.Mathlib.Omega.{arith}
use Rattle.lines.specs.Line.{line_of}
use Rattle.lines.proofs.Lines.{nothing, line_shows, line_counts, is_known_lem, is_unknown, part_put}
use Rattle.lines.proofs.part.Goals as goal

pub returns-then-known_name : goal.returns-then-known_name
returns-then-known_name c =
    let w = c.put.ensures in
    let s = c.put-2.ensures in
    let n = c.put_numbers.ensures in
    let m = c.put-then-known_name.ensures in
    let e = w.len_after in
    let f = s.len_after in
    let g = n.len_after in
    let h = m.len_after in
    let k = n.n_len_bound in
    let front = n.line_after _ (s.line_after _ (w.line_after _ nothing ∙ ap line_of c.name.ensures)) in
    let mark = is_known_lem _ (sym c.known_name.ensures ∙ c.if-known_name.true) in
    let made = m.line_after _ front ∙ ap line_of (part_put _ _ _ _ mark) in
    record { value = made; len_bound = omega arith; prefix_len = line_counts _ made; shown = line_shows _ made }

pub returns-else-known_name : goal.returns-else-known_name
returns-else-known_name c =
    let w = c.put.ensures in
    let s = c.put-2.ensures in
    let n = c.put_numbers.ensures in
    let m = c.put-else-known_name.ensures in
    let e = w.len_after in
    let f = s.len_after in
    let g = n.len_after in
    let h = m.len_after in
    let k = n.n_len_bound in
    let front = n.line_after _ (s.line_after _ (w.line_after _ nothing ∙ ap line_of c.name.ensures)) in
    let mark = is_unknown _ (sym c.known_name.ensures ∙ c.if-known_name.false) in
    let made = m.line_after _ front ∙ ap line_of (part_put _ _ _ _ mark) in
    record { value = made; len_bound = omega arith; prefix_len = line_counts _ made; shown = line_shows _ made }
