use native.Mathlib.Omega.{arith}
use Rattle.settings_writer.proofs.Checks.{width_1, width_2, width_3, width_4, width_5}
use Rattle.settings_writer.proofs.width_of.Goals as goal

pub returns-then-n-lt128 : goal.returns-then-n-lt128
returns-then-n-lt128 c = (width_1 _ c.if-n-lt128.true, omega arith)

pub returns-then-n-lt16384 : goal.returns-then-n-lt16384
returns-then-n-lt16384 c = (width_2 _ c.if-n-lt128.false c.if-n-lt16384.true, omega arith)

pub returns-then-n-lt2097152 : goal.returns-then-n-lt2097152
returns-then-n-lt2097152 c = (width_3 _ c.if-n-lt128.false c.if-n-lt16384.false c.if-n-lt2097152.true, omega arith)

pub returns-then-n-lt268435456 : goal.returns-then-n-lt268435456
returns-then-n-lt268435456 c = (width_4 _ c.if-n-lt128.false c.if-n-lt16384.false c.if-n-lt2097152.false c.if-n-lt268435456.true, omega arith)

pub returns : goal.returns
returns c = (width_5 _ c.if-n-lt128.false c.if-n-lt16384.false c.if-n-lt2097152.false c.if-n-lt268435456.false, omega arith)
