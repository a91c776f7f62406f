use native.Mathlib.Omega.{arith}
use Rattle.wire.proofs.Verdicts.{passed_on}
use Rattle.settings_writer.proofs.Writes.{kept, passed, room_left, filled}
use Rattle.settings_writer.proofs.write.Goals as goal

pub returns-in_err-len : goal.returns-in_err-len
returns-in_err-len c =
    record {
      answered = passed_on _ _ c.judge.ensures _ c.from_residual.ensures c.in_err-len.was;
      left = kept c.args.rows.now c.args.out.now c.judge.ensures c.in_err-len.was;
    }

pub overflow_cast-count : goal.overflow_cast-count
overflow_cast-count c = let p = passed c.args.rows.now c.args.out.now c.judge.ensures c.in_ok-len.was in omega (arith, p.few)

pub put_groups-at-requires : goal.put_groups-at-requires
put_groups-at-requires c = let p = passed c.args.rows.now c.args.out.now c.judge.ensures c.in_ok-len.was in (omega (arith, p.fits), omega (arith, p.few))

pub put_numbers-requires : goal.put_numbers-requires
put_numbers-requires c = room_left c.args.rows.now c.args.out.now c.judge.ensures c.in_ok-len.was c.put_groups-at.ensures.0 c.put_groups-at.ensures.1

pub returns : goal.returns
returns c =
    record {
      answered = rw c.in_ok-len.was at c.judge.ensures;
      left = filled c.args.rows.now c.args.out.now c.judge.ensures c.in_ok-len.was c.put_groups-at.ensures.0 c.put_groups-at.ensures.1 c.put_numbers.ensures;
    }
