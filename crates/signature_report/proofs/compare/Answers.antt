use Prim.Native.Nat.{◌+◌, ◌≤◌}
use native.Mathlib.Omega.{arith}
use Rattle.signature_report_layout.proofs.Placed.{list_short, list_inside, list_is}
use Rattle.signature_report.proofs.compare.Goals as goal

pub search-requires : goal.search-requires
search-requires c =
    let few : c.count_in-input.result + c.count_in-output.result + c.count_in-patch.result ≤ 12884901888 = omega arith in (
      c.requires,
      list_inside c.args.part _ _ _ _ _ _ c.args.e.now c.list_before-before.ensures c.list_size-size.ensures c.apart-w.ensures,
      list_short c.args.part _ _ _ _ _ _ c.args.e.now c.list_before-before.ensures c.list_size-size.ensures c.apart-w.ensures few,
    )

pub returns : goal.returns
returns c =
    list_is c.args.part _ _ _ _ _ _ c.args.e.now c.list_before-before.ensures c.list_size-size.ensures c.apart-w.ensures _ _
    c.count_in-input.ensures.0 c.count_in-output.ensures.0 c.count_in-patch.ensures.0 c.search.ensures
