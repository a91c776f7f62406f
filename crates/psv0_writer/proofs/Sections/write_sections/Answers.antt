use mathlib.Core.Path.{◌≡◌, ◌∙◌, sym}
use native.Mathlib.Omega.{arith}
use lib.Seq.{length-take-le}
use Rattle.wire.proofs.Stretches.{all_written, rest_length, rest_written, written_length_lem}
use Rattle.psv0_writer_layout.proofs.Stretches.{body_length_lem}
use Rattle.psv0_writer_layout.specs.Stretch.{head_length}
use Rattle.psv0_writer_layout.proofs.Sections.{head_front, head_fits, head_only_lem, head_whole, head_and_body, both_laid}
use Rattle.psv0_writer.specs.Sections.{given_by}
use Rattle.psv0_writer.proofs.Sections.write_sections.Goals as goal

pub slice_bounds-write_head-end : goal.slice_bounds-write_head-end
slice_bounds-write_head-end c =
    let g = given_by c.args.self.now in
    let fits = head_fits c.args.edition g in
    let exact : c.head_length-head.result ≡ head_length g = omega arith in
    omega arith

pub slice_bounds-write_head-end-2 : goal.slice_bounds-write_head-end-2
slice_bounds-write_head-end-2 c =
    let g = given_by c.args.self.now in
    let fits = head_fits c.args.edition g in
    let exact : c.head_length-head.result ≡ head_length g = omega arith in
    sym (length-take-le _ _ (omega arith))

pub write_head-requires : goal.write_head-requires
write_head-requires c =
    let g = given_by c.args.self.now in
    let fits = head_fits c.args.edition g in
    let exact : c.head_length-head.result ≡ head_length g = omega arith in
    let l = length-take-le c.head_length-head.result c.args.out.now (omega arith) in
    (l ∙ exact, rw l (omega arith))

pub slice_bounds-write_body-count : goal.slice_bounds-write_body-count
slice_bounds-write_body-count c =
    let g = given_by c.args.self.now in
    let fits = head_fits c.args.edition g in
    let exact : c.head_length-head.result ≡ head_length g = omega arith in
    let w = head_front c.args.edition g c.args.out.now c.write_head.ensures exact in
    omega (arith, written_length_lem w (omega arith))

pub slice_bounds-write_body-start : goal.slice_bounds-write_body-start
slice_bounds-write_body-start c =
    let g = given_by c.args.self.now in
    let fits = head_fits c.args.edition g in
    let exact : c.head_length-head.result ≡ head_length g = omega arith in
    let w = head_front c.args.edition g c.args.out.now c.write_head.ensures exact in
    omega (arith, written_length_lem w (omega arith))

pub write_body-requires : goal.write_body-requires
write_body-requires c =
    let g = given_by c.args.self.now in
    let fits = head_fits c.args.edition g in
    let exact : c.head_length-head.result ≡ head_length g = omega arith in
    let w = head_front c.args.edition g c.args.out.now c.write_head.ensures exact in
    let q = head_and_body c.args.edition g c.if-edition-ne0.true in
    let l = rest_length w (omega arith) in
    (l ∙ omega arith, rw l (omega arith))

pub returns-then-edition-ne0 : goal.returns-then-edition-ne0
returns-then-edition-ne0 c =
    let g = given_by c.args.self.now in
    let fits = head_fits c.args.edition g in
    let exact : c.head_length-head.result ≡ head_length g = omega arith in
    let w = head_front c.args.edition g c.args.out.now c.write_head.ensures exact in
    let q = head_and_body c.args.edition g c.if-edition-ne0.true in
    rest_written w (omega arith) _ c.write_body.ensures
    (body_length_lem g ∙ omega arith)
    ∙ both_laid c.args.edition g c.if-edition-ne0.true

pub returns-else-edition-ne0 : goal.returns-else-edition-ne0
returns-else-edition-ne0 c =
    let g = given_by c.args.self.now in
    let fits = head_fits c.args.edition g in
    let exact : c.head_length-head.result ≡ head_length g = omega arith in
    let w = head_front c.args.edition g c.args.out.now c.write_head.ensures exact in
    let q = head_only_lem c.args.edition g c.if-edition-ne0.false in
    all_written w (omega arith) ∙ head_whole c.args.edition g c.if-edition-ne0.false
