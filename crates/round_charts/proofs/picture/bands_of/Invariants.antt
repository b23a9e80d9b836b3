use Rattle.std.proofs.Common.{All}
use Rattle.round_charts.specs.Picture.{IsBandOn}
use Rattle.round_charts.proofs.picture.bands_of.Given as goal

abbrev pub invariant-loop-found : goal.invariant-loop-found
invariant-loop-found l = All (IsBandOn l.page) l.bands.items
