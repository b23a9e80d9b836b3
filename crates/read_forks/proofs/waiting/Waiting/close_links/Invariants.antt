use Rattle.read_forks.proofs.ClosingTurns.{IsAmid}
use Rattle.read_forks.proofs.waiting.Waiting.close_links.Given as goal

abbrev pub invariant-loop-at : goal.invariant-loop-at
invariant-loop-at g l = IsAmid l.fn.net l.fn.self l.step l.at l.net l.self
