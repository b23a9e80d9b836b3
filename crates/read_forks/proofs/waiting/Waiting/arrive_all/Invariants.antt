use Rattle.read_forks.proofs.ArrivedLines.{AreFirstOpen}
use Rattle.read_forks.proofs.waiting.Waiting.arrive_all.Given as goal

abbrev pub invariant-loop-line : goal.invariant-loop-line
invariant-loop-line g l = AreFirstOpen l.line l.self l.fn.net l.net
