use mathlib.Core.Path.{◌≡◌, ◌∙◌, ap}
use mathlib.Core.List.{◌++◌}
use native.Mathlib.Omega.{arith}
use Rattle.inspect_text.specs.Inspected.{part_lines, output_of}
use Rattle.inspect_text.proofs.Texts.{count_is, count_few, entry_line, none_listed, more_listed}
use Rattle.inspect_text.proofs.put_parts.Goals as goal

pub loop-i-init : goal.loop-i-init
loop-i-init c = (count_few _ c.requires.b_value c.read-t.ensures, none_listed _ _)

pub put-requires : goal.put-requires
put-requires c =
    let room = c.requires.len_bound in
    let short = c.loop-i.invariant.1.short in
    let line = c.part-line.ensures.len_bound in
    let long = c.part-line.ensures.prefix_len.1 in
    omega arith

pub loop-i-preserved : goal.loop-i-preserved
loop-i-preserved c =
    let part = c.part-line.ensures in
    let few = part.len_bound in
    let long = part.prefix_len.1 in
    let line = part.shown ∙ entry_line _ c.requires.b_value c.read-t.ensures c.loop-i.i (omega arith) in
    (c.loop-i.invariant.0, more_listed c.loop-i.invariant.1 line (omega arith) c.put.ensures.text_after c.put.ensures.len_after)

pub returns : goal.returns
returns c = λ t h.
    let e = count_is _ c.requires.b_value c.read-t.ensures in
    let q : c.loop-i.i ≡ c.read-t.result.count = omega arith in
    c.loop-i.invariant.1.holds t h ∙ ap (λ n. output_of (t ++ part_lines c.args.b.now n)) (q ∙ e)
