use Rattle.cfg_build.proofs.RoundHolds.{rounds_are_flow, none_stuck}
use Rattle.cfg_build.proofs.laws.holds_come_in_rounds.Goals as goal
use Rattle.std.proofs.Common.{arith}

pub returns : goal.returns
returns c = search (rounds_are_flow, none_stuck, arith)
