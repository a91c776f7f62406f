use Prim.Native.Nat.{ℕ, ◌+◌, ◌*◌, ◌-◌, ◌≤◌}
use mathlib.Core.Path.{◌≡◌, refl, sym, ◌∙◌}
use mathlib.Core.List.{List, ◌++◌}
use native.Mathlib.Nat.{sub-zero}
use native.Mathlib.Omega.{arith}
use lib.ListN.{length, take, drop}
use Rattle.wire.proofs.Stretches.{Written, none_written, lent_length, written_length_lem, written_more, front}
use Rattle.assembler_layout.specs.Assembled.{Parts, end_before, file_length, total}
use Rattle.assembler_layout.proofs.Lengths.{right_told}
use Rattle.assembler_layout.specs.Answer.{Passed, sized, front_bytes}
use Rattle.assembler.specs.Parts.{parts_of}
use Rattle.assembler_layout.proofs.Checks.{ends_agree}
use Rattle.assembler_layout.proofs.Sections.{PartFits, part_fits, part_lengths, front_length, table_inside, end_inside, end_next, data_next, part_more, all_parts, no_parts, assembled_is}
use Rattle.assembler.proofs.Parts.write.Goals as goal

-- the output where the loop begins, which was o: header and offsets y have been written
abbrev out_at : (sizes o y : List ℕ) → List ℕ
out_at sizes o y = take 0 o ++ (y ++ drop (32 + 4 * length sizes - 0) (drop 0 o))

module _ (g : Parts) (o : List ℕ) (r : Passed g (length o)) (y : List ℕ) (w : y ≡ front_bytes g.digest (length o) g.sizes) where
  begun : Written o (front_bytes g.digest (length o) g.sizes) (32 + 4 * length g.sizes) (out_at g.sizes o y)
  begun =
      let n = 32 + 4 * length g.sizes in
      let l = front_length g.digest g.sizes (length o) (right_told g r.right).digested in
      written_more (none_written o) n (omega arith) (front_bytes g.digest (length o) g.sizes) w (l ∙ sym (sub-zero n))

  begun-length : length (out_at g.sizes o y) ≡ file_length g
  begun-length =
      let exact = r.exact in
      written_length_lem begun (omega (arith, table_inside g)) ∙ exact

  long : {i end : ℕ} {front x : List ℕ} → i ≤ length g.sizes → end ≡ end_before g i → Written (out_at g.sizes o y) front end x → length x ≡ file_length g
  long {i} l f v =
      let b = begun-length in
      let e = end_inside g {k = i} l in
      written_length_lem v (omega arith) ∙ b

pub slice_bounds-write_front-end : goal.slice_bounds-write_front-end
slice_bounds-write_front-end c = let exact = c.requires.exact in omega (arith, table_inside (parts_of c.args.self.now))

pub write_front-requires : goal.write_front-requires
write_front-requires c =
    let g = parts_of c.args.self.now in
    let exact = c.requires.exact in
    let short = c.requires.short in (
      lent_length (none_written _) _ (omega arith) (omega (arith, table_inside g)) ∙ sub-zero _,
      ((right_told g c.requires.right).digested, rw (ends_agree (sized g.sizes) g refl) short),
    )

pub loop-i-init : goal.loop-i-init
unfolding end_before total
loop-i-init c =
    let g : Parts = parts_of c.args.self.now in
    let b = begun-length g c.args.out.now c.requires c.write_front.new.out c.write_front.ensures in
    (refl, (refl, no_parts g (out_at c.args.self.now.sizes.now c.args.out.now c.write_front.new.out) (32 + 4 * length c.args.self.now.sizes.now) (omega (arith, table_inside g))))

pub round_up-start-requires : goal.round_up-start-requires
round_up-start-requires c =
    let g : Parts = parts_of c.args.self.now in
    let f : PartFits g c.loop-i.i c.loop-i.end c.loop-i.from = part_fits g c.requires c.loop-i-test.true c.loop-i.invariant.0 c.loop-i.invariant.1.0 in omega arith

pub overflow_add-next : goal.overflow_add-next
overflow_add-next c =
    let g : Parts = parts_of c.args.self.now in
    let f : PartFits g c.loop-i.i c.loop-i.end c.loop-i.from = part_fits g c.requires c.loop-i-test.true c.loop-i.invariant.0 c.loop-i.invariant.1.0 in omega (arith, c.round_up-start.ensures)

pub overflow_add-next-in-loop-i : goal.overflow_add-next-in-loop-i
overflow_add-next-in-loop-i c =
    let g : Parts = parts_of c.args.self.now in
    let f : PartFits g c.loop-i.i c.loop-i.end c.loop-i.from = part_fits g c.requires c.loop-i-test.true c.loop-i.invariant.0 c.loop-i.invariant.1.0 in omega (arith, c.round_up-start.ensures)

pub overflow_add-to : goal.overflow_add-to
overflow_add-to c =
    let g : Parts = parts_of c.args.self.now in
    let f : PartFits g c.loop-i.i c.loop-i.end c.loop-i.from = part_fits g c.requires c.loop-i-test.true c.loop-i.invariant.0 c.loop-i.invariant.1.0 in omega (arith, c.round_up-start.ensures)

pub slice_bounds-write_part-end : goal.slice_bounds-write_part-end
slice_bounds-write_part-end c =
    let g : Parts = parts_of c.args.self.now in
    let f : PartFits g c.loop-i.i c.loop-i.end c.loop-i.from = part_fits g c.requires c.loop-i-test.true c.loop-i.invariant.0 c.loop-i.invariant.1.0 in omega (arith, c.round_up-start.ensures, long g c.args.out.now c.requires c.write_front.new.out c.write_front.ensures (omega arith) c.loop-i.invariant.0 c.loop-i.invariant.1.1)

pub slice_bounds-write_part-end-in-loop-i : goal.slice_bounds-write_part-end-in-loop-i
slice_bounds-write_part-end-in-loop-i c =
    let g : Parts = parts_of c.args.self.now in
    let f : PartFits g c.loop-i.i c.loop-i.end c.loop-i.from = part_fits g c.requires c.loop-i-test.true c.loop-i.invariant.0 c.loop-i.invariant.1.0 in omega arith

pub slice_bounds-write_part-end-in-loop-i-2 : goal.slice_bounds-write_part-end-in-loop-i-2
slice_bounds-write_part-end-in-loop-i-2 c =
    let g : Parts = parts_of c.args.self.now in
    let f : PartFits g c.loop-i.i c.loop-i.end c.loop-i.from = part_fits g c.requires c.loop-i-test.true c.loop-i.invariant.0 c.loop-i.invariant.1.0 in omega arith

pub write_part-requires : goal.write_part-requires
write_part-requires c =
    let g : Parts = parts_of c.args.self.now in
    rw c.round_up-start.ensures (part_lengths g (part_fits g c.requires c.loop-i-test.true c.loop-i.invariant.0 c.loop-i.invariant.1.0) c.loop-i.invariant.1.1 (begun-length g c.args.out.now c.requires c.write_front.new.out c.write_front.ensures))

pub loop-i-preserved : goal.loop-i-preserved
loop-i-preserved c =
    let l = c.loop-i in
    let g : Parts = parts_of c.args.self.now in
    let e = c.round_up-start.ensures in
    let f = l.invariant.0 in
    let h = c.loop-i-test.true in (
      rw (e, f) (end_next g l.i),
      (
        data_next g l.i h l.invariant.1.0,
        rw e (part_more g (take (32 + 4 * length g.sizes) (out_at c.args.self.now.sizes.now c.args.out.now c.write_front.new.out)) l.i l.invariant.1.1 f (right_told g c.requires.right) h l.invariant.1.0 (rw e at c.write_part.ensures)),
      ),
    )

pub shape_of-out : goal.shape_of-out
shape_of-out c = long (parts_of c.args.self.now) c.args.out.now c.requires c.write_front.new.out c.write_front.ensures (omega arith) c.loop-i.invariant.0 c.loop-i.invariant.1.1 ∙ sym c.requires.exact

pub returns : goal.returns
returns c =
    let g : Parts = parts_of c.args.self.now in
    let l = c.loop-i in
    all_parts g (take (32 + 4 * length g.sizes) (out_at c.args.self.now.sizes.now c.args.out.now c.write_front.new.out)) l.i l.invariant.1.1 l.invariant.0 (omega arith) (begun-length g c.args.out.now c.requires c.write_front.new.out c.write_front.ensures)
    ∙ rw (front (begun g c.args.out.now c.requires c.write_front.new.out c.write_front.ensures)) (assembled_is g c.requires.exact)
