use Rattle.std.proofs.Common.{◌≡◌, map, take}
use Rattle.closed_walks.specs.Graph.{to}
use Rattle.net_tables.proofs.tables.heads.Given as goal

abbrev pub invariant-loop-e : goal.invariant-loop-e
invariant-loop-e l = l.pieces.items ≡ map (to l.g) (take l.e-index l.edges.items)
