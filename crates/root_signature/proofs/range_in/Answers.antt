use Rattle.wire.proofs.Verdicts.{refuses, accepts}
use Rattle.root_signature_layout.proofs.Steps.{read_type, read_data, no_parameter, not_a_table, no_such_range, such_range, range_is}
use Rattle.root_signature.proofs.range_in.Goals.{then-u32_at-ne0-via-then-u32_at-ne0, then-u32_at-ne0-via-else-u32_at-ne0+then-u32_at-j}
use Rattle.root_signature.proofs.range_in.Goals as goal

pub returns-then-u32_at-i : goal.returns-then-u32_at-i
returns-then-u32_at-i c = refuses _ _ c.refused.ensures (no_parameter _ _ _ c.u32_at.ensures c.if-u32_at-i.true)

pub returns-then-u32_at-ne0 : goal.returns-then-u32_at-ne0
returns-then-u32_at-ne0 c =
    let t = read_type c.args.d.now c.args.i c.u32_at-2.ensures c.u32_at-3.ensures in
    elim c.then-u32_at-ne0.branch [
      | then-u32_at-ne0-via-then-u32_at-ne0 w ↦
          refuses _ _ c.refused-then-u32_at-ne0.ensures (not_a_table _ _ _ c.u32_at.ensures c.if-u32_at-i.false t w.if-u32_at-ne0.true)
      | then-u32_at-ne0-via-else-u32_at-ne0+then-u32_at-j w ↦
          refuses _ _ c.refused-then-u32_at-ne0.ensures
          (no_such_range _ _ _ c.u32_at.ensures c.if-u32_at-i.false t w.if-u32_at-ne0.false (read_data _ _ c.u32_at-2.ensures c.u32_at-data.ensures)
          w.u32_at-else-u32_at-ne0.ensures w.if-u32_at-j.true)
    ]

pub returns : goal.returns
returns c =
    let t = read_type c.args.d.now c.args.i c.u32_at-2.ensures c.u32_at-3.ensures in
    let o = read_data c.args.d.now c.args.i c.u32_at-2.ensures c.u32_at-data.ensures in
    let e = range_is _ _ _ c.u32_at-version.ensures o c.u32_at-first.ensures c.range_place.ensures.value c.range_of.ensures in
    rw e
    (accepts _ _ (such_range _ _ _ c.u32_at.ensures c.if-u32_at-i.false t c.if-u32_at-ne0.false o c.u32_at-else-u32_at-ne0.ensures c.if-u32_at-j.false))
