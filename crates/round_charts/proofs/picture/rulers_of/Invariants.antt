use Rattle.std.proofs.Common.{All}
use Rattle.round_charts.specs.Picture.{IsRulerOn}
use Rattle.round_charts.proofs.picture.rulers_of.Given as goal

abbrev pub invariant-loop-width : goal.invariant-loop-width
invariant-loop-width l = All (IsRulerOn l.page) l.rulers.items
