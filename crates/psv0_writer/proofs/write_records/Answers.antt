use native.Mathlib.Omega.{arith}
use Rattle.psv0_writer_layout.proofs.Sections.{some_length}
use Rattle.psv0_writer.proofs.write_records.Goals as goal

pub write_counted-requires : goal.write_counted-requires
write_counted-requires c = omega (arith, some_length c.args.records.now (λ z. let k = rw z at c.if-not-is_empty.ensures in cc))
