use Rattle.std.proofs.Common.{All}
use Rattle.lane_layout.specs.Page.{IsWayOn}
use Rattle.lane_layout.proofs.page.Page.ways.Given as goal

abbrev pub invariant-loop-way : goal.invariant-loop-way
invariant-loop-way l = All (IsWayOn l.self) l.inside.items
