use Rattle.std.proofs.Common.{All}
use Rattle.lane_layout.specs.Page.{IsFrameOn}
use Rattle.lane_layout.proofs.page.Page.frames.Given as goal

abbrev pub invariant-loop-boxed : goal.invariant-loop-boxed
invariant-loop-boxed l = All (IsFrameOn l.self) l.frames.items
