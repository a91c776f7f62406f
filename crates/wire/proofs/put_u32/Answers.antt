use Rattle.wire.proofs.Numbers.{le32_bytes}
use Rattle.wire.proofs.put_u32.Goals as goal

pub returns : goal.returns
returns c = rw (← le32_bytes _, ← c.to_le_bytes.ensures) c.put.ensures
