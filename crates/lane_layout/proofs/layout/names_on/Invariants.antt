use Rattle.std.proofs.Common.{All}
use Rattle.lane_layout.specs.Page.{IsNameOn}
use Rattle.lane_layout.proofs.layout.names_on.Given as goal

abbrev pub invariant-loop-name : goal.invariant-loop-name
invariant-loop-name l = All (IsNameOn l.page) l.inside.items
