use mathlib.Core.Path.{◌∙◌}
use Rattle.std.proofs.lemmas.List.{take_rest}
use Rattle.psv0_layout.proofs.References.{string_past, string_stops}
use Rattle.strings.proofs.Compared.{string_found}
use Rattle.strings.proofs.len_at.Goals as goal

pub returns-then-t-o : goal.returns-then-t-o
returns-then-t-o c =
    let a = c.args in
    rw (string_stops a.t.now a.o (string_past a.t.now a.o c.if-t-o.true))

pub returns : goal.returns
returns c = c.unwrap_or.ensures ∙ string_found c.args.t.now c.args.o c.if-t-o.false (take_rest c.args.t.now c.args.o) c.memchr.result c.memchr.ensures
