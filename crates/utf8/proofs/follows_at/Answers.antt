use lib.ListN.{get_or}
use Rattle.utf8.proofs.Stops.{follows_test}
use Rattle.utf8.proofs.follows_at.Goals as goal

pub returns : goal.returns
returns c = rw c.byte_at.ensures (follows_test (get_or c.args.t.now c.args.p 0))
