use Rattle.utf8.proofs.One.{read_ill, read_letters}
use Rattle.utf8.proofs.Stops.{good_past}
use Rattle.utf8.proofs.read_string.Goals as goal

pub returns-then-t-o : goal.returns-then-t-o
returns-then-t-o c = let a = c.args in read_ill a.t.now a.o (good_past a.t.now a.o c.if-t-o.true)

pub returns-then-t-i-eq0 : goal.returns-then-t-i-eq0
returns-then-t-i-eq0 c =
    let a = c.args in
    let r = c.letters_end-i.ensures in
    read_letters a.t.now a.o c.letters_end-i.result r.0 c.if-i-t.true r.2 c.if-t-i-eq0.true
