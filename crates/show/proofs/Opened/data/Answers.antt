use Prim.Native.Nat.{◌+◌, ◌≤◌}
use lib.ListN.{length}
use mathlib.Core.Path.{◌∙◌}
use mathlib.Core.Bool.{true}
use native.Mathlib.Omega.{arith}
use Rattle.wire.specs.Number.{u32_at}
use Rattle.part_table_layout.proofs.Lookups.{part_in_file, read_inside}
use Rattle.show.proofs.Opened.data.Goals as goal
use Rattle.show.proofs.Opened.data.Goals.{In_ok-part}

inside : (c : In_ok-part) → c.in_ok-part.part.offset + 8 + c.in_ok-part.part.size ≤ length c.args.self.now.bytes.now
inside c =
    let b = c.args.self.now.bytes.now in
    let x = u32_at c.args.name.now 0 in
    read_inside b x 0 (c.part_in.ensures ∙ rw c.args.self.now.counted (part_in_file true _ b x 0)) c.in_ok-part.was

pub overflow_add-start : goal.overflow_add-start
overflow_add-start c = let h = inside (goal.at.overflow_add-start c).In_ok-part in omega arith

pub overflow_add-result : goal.overflow_add-result
overflow_add-result c = let h = inside (goal.at.overflow_add-result c).In_ok-part in omega arith

pub slice_bounds-result-end : goal.slice_bounds-result-end
slice_bounds-result-end c = let h = inside (goal.at.slice_bounds-result-end c).In_ok-part in omega arith
