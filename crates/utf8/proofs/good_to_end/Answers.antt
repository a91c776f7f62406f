use mathlib.Core.Path.{sym}
use native.Mathlib.Omega.{arith}
use Rattle.utf8.proofs.Stops.{flag_past}
use Rattle.utf8.proofs.good_to_end.Goals as goal

pub good_by-requires : goal.good_by-requires
good_by-requires c = (c.requires, omega arith, sym (flag_past c.args.t.now _ (omega arith)))
