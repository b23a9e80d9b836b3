use Rattle.std.proofs.Common.{All}
use Rattle.round_charts.specs.Picture.{IsKeyOn}
use Rattle.round_charts.proofs.keys.keys_on.Given as goal

abbrev pub invariant-loop-key : goal.invariant-loop-key
invariant-loop-key l = All (IsKeyOn l.page) l.keys.items
