use Rattle.std.proofs.Common.{refl, arith}
use Rattle.op_net.specs.ApartLoads.{flags_of}
use Rattle.op_net.specs.NetView.{marking_of as operations_on, net_of as net_in}
use Rattle.read_forks.proofs.WaitTests.{changed_tested, still_closed}
use Rattle.read_forks.proofs.waiting.open_for.Goals as goal

pub returns-then-left-eq0-clause-marks : goal.returns-then-left-eq0-clause-marks
returns-then-left-eq0-clause-marks g c =
    changed_tested (net_in c.args.net.now) (operations_on c.args.net.now) c.args.closed.now.items _ (flags_of c.args.net.now) (flags_of c.test.new.net) c.args.k _ refl c.test.ensures.flags

pub returns-else-left-eq0-clause-marks : goal.returns-else-left-eq0-clause-marks
returns-else-left-eq0-clause-marks g c =
    still_closed (net_in c.args.net.now) (operations_on c.args.net.now) c.args.closed.now.items _ (flags_of c.args.net.now) c.args.k _ refl (omega (arith, c.if-left-eq0.false)) c.requires.inside c.requires.some
