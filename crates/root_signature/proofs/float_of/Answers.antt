use lib.Ieee
use Rattle.root_signature_layout.proofs.Floats.{is_nan_lem, is_number}
use Rattle.root_signature.proofs.float_of.Goals as goal

pub returns-then-bits-gt2139095040 : goal.returns-then-bits-gt2139095040
unfolding Ieee.of_bits Ieee.div
returns-then-bits-gt2139095040 c = is_nan_lem _ c.if-bits-gt2139095040.true

pub float_from_bits-result : goal.float_from_bits-result
float_from_bits-result c = is_number _ c.if-bits-gt2139095040.false
