use Rattle.std.proofs.Common.{arith}
use Rattle.redundancy.proofs.Meetings.{kills_more}
use Rattle.redundancy.proofs.rows.kill_row.Goals as goal

pub loop-written-preserved : goal.loop-written-preserved
loop-written-preserved g c = record {
  count = omega (arith, c.in_ok-push.ensures.len, c.push.new.self.ok.0, c.loop-written.row.ok.0, c.loop-written.invariant.count);
  bits = rw c.in_ok-push.ensures.items (kills_more c.args.needs.now c.args.writes.now c.written-item.result c.loop-written.row.items c.loop-written.written-index c.killed.result c.loop-written.invariant.count c.loop-written-test.true c.written-item.is c.loop-written.invariant.bits c.killed.ensures);
}

pub returns-clause-bits : goal.returns-clause-bits
returns-clause-bits g c = λ node k d less few. c.loop-written.invariant.bits node k d (omega (arith, less, c.loop-written-test.false)) few
