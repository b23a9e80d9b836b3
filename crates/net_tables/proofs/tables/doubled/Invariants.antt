use Rattle.std.proofs.Common.{◌≡◌, map, take, slice_index}
use Rattle.net_tables.proofs.tables.doubled.Given as goal

abbrev pub invariant-loop-e : goal.invariant-loop-e
invariant-loop-e l = l.twice.items ≡ map (slice_index l.edges.items) (take l.e-index l.edges.items)
