use Rattle.wire.proofs.Numbers.{le16_bytes}
use Rattle.wire.proofs.put_u16.Goals as goal

pub returns : goal.returns
returns c = rw (← le16_bytes _, ← c.to_le_bytes.ensures) c.put.ensures
