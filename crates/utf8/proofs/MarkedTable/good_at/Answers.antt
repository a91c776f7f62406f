use Prim.Native.Nat.{◌+◌, ◌*◌, ◌/◌, ◌%◌}
use mathlib.Core.Path.{sym, ◌∙◌}
use native.Mathlib.Omega.{arith}
use Rattle.utf8.proofs.Marking.{marked_flag}
use Rattle.utf8.proofs.Stops.{good_past}
use Rattle.utf8.proofs.MarkedTable.good_at.Goals as goal

pub returns-then-t-o : goal.returns-then-t-o
returns-then-t-o c = sym (good_past c.args.self.now.bytes.now c.args.o (omega arith))

pub good_by-requires : goal.good_by-requires
good_by-requires c =
    let s = c.args.self.now in
    let block = c.args.o / 32 + 1 in (
      omega arith,
      omega arith,
      c.flag_of.ensures ∙ marked_flag s.bytes.now s.marks.now _ _ (block / 8) (block % 8) s.right (omega arith) (omega arith) (omega arith) (block * 32) (omega arith),
    )
