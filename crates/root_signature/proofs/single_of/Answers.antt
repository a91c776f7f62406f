use Rattle.root_signature_layout.specs.Root.{single_of}
use Rattle.root_signature.proofs.single_of.Goals as goal

pub returns : goal.returns
unfolding single_of
returns c = rw c.float_of.ensures
