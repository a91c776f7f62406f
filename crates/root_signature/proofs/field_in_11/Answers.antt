use Prim.Native.Nat.{ℕ}
use mathlib.Core.Path.{◌≡◌, refl, ◌∙◌}
use mathlib.Core.Bool.{Bool, true, false, not}
use lib.Dec.{eqb}
use Rattle.std.specs.Bool.{then_some}
use Rattle.std.specs.Prelude.{Some, None}
use Rattle.wire.specs.Choice.{choose}
use Rattle.root_signature_layout.specs.Root.{in11}
use Rattle.root_signature.proofs.field_in_11.Goals as goal

either : (t : Bool) (n : ℕ) → then_some (not t) n ≡ choose t None (Some n)
either true n = refl
either false n = refl

pub returns : goal.returns
unfolding in11
returns c = c.then_some.ensures ∙ either (eqb c.args.version 1) c.args.n
