use mathlib.Core.Path.{◌∙◌, ap}
use native.Mathlib.Omega.{arith}
use Rattle.inspect_text.specs.Inspected.{output_of}
use Rattle.inspect_text.proofs.Texts.{nothing_shown, output_shows, output_counts, too_long_lem, prints_refusal, table_passed, prints_table}
use Rattle.inspect_text.proofs.text.Goals as goal

pub returns-then-b-gt65536 : goal.returns-then-b-gt65536
returns-then-b-gt65536 c =
    let made = c.put.ensures.text_after _ nothing_shown ∙ ap output_of (too_long_lem _ (omega arith)) in
    record { value = made; prefix_len = output_counts _ made; shown = output_shows _ made }

pub put_parts-requires-clause-b_value : goal.put_parts-requires-clause-b_value
put_parts-requires-clause-b_value c = table_passed _ (omega arith) c.open.ensures c.in-Ok.is

pub returns-in-Err : goal.returns-in-Err
returns-in-Err c =
    let line = c.refused-line.ensures.shown ∙ prints_refusal _ (omega arith) c.open.ensures c.in-Err.is in
    let made = c.put-in-Err.ensures.text_after _ nothing_shown ∙ ap output_of line in
    record { value = made; prefix_len = output_counts _ made; shown = output_shows _ made }

pub returns-in-Ok : goal.returns-in-Ok
returns-in-Ok c =
    let first = c.put-in-Ok.ensures.text_after _ nothing_shown ∙ ap output_of c.accepted-line.ensures.shown in
    let made = c.put_parts.ensures _ first ∙ ap output_of (prints_table _ (omega arith) c.open.ensures c.in-Ok.is) in
    record { value = made; prefix_len = output_counts _ made; shown = output_shows _ made }
