use Rattle.read_forks.proofs.ArrivedLines.{AreLedOpen}
use Rattle.read_forks.proofs.waiting.Waiting.follow_links.Given as goal

abbrev pub invariant-loop-j : goal.invariant-loop-j
invariant-loop-j g l = AreLedOpen l.k l.j l.fn.self l.self l.fn.net l.net
