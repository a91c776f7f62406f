use Prim.Native.Nat.{◌+◌}
use mathlib.Core.List.{append_assoc}
use lib.ListN.{length}
use Rattle.wire.specs.Number.{le32}
use Rattle.wire.proofs.Numbers.{le32_length}
use mathlib.Core.Path.{◌∙◌}
use native.Mathlib.Omega.{arith}
use Rattle.wire.proofs.Stretches.{none_written, written_copy, written_number, rest_copied}
use Rattle.replacing.proofs.write_part.Goals as goal

pub returns : goal.returns
returns c =
    let w1 = written_copy (none_written c.args.out.now) (length c.args.kept.now) (omega arith) c.args.kept.now (omega arith) (omega arith) c.copy.ensures in
    let w2 = written_number w1 (le32 (length c.args.«data».now)) (length c.args.kept.now + 4) (omega (arith, le32_length (length c.args.«data».now))) (omega arith) c.put_u32.ensures in
    rest_copied w2 (omega arith) _ (omega arith) c.copy-2.ensures ∙ append_assoc c.args.kept.now (le32 (length c.args.«data».now)) c.args.«data».now
