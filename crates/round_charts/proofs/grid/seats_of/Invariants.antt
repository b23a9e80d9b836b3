use Rattle.std.proofs.Common.{◌≡◌, ◌++◌, drop, map}
use Rattle.round_charts.specs.Grid.{key_of, keys_from}
use Rattle.round_charts.proofs.grid.seats_of.Given as goal

abbrev pub invariant-loop-found : goal.invariant-loop-found
invariant-loop-found l = record {
  place : l.firing ≡ l.found-index;
  each : map key_of l.seats.items ++ keys_from l.most l.firing (drop l.found-index l.firings) (drop l.found-index l.rounds) ≡ keys_from l.most 0 l.firings l.rounds;
}
