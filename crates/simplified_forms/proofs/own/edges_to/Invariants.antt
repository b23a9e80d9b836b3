use Rattle.std.proofs.Common.{◌+◌, ◌==◌, drop}
use Rattle.std.specs.List.{position_or_len, range_with_len}
use Rattle.closed_walks.specs.Graph.{edge_count, to}
use Rattle.simplified_forms.specs.Tables.{IsTable}
use Rattle.simplified_forms.proofs.own.edges_to.Given as goal

abbrev pub invariant-loop-e : goal.invariant-loop-e
invariant-loop-e l = IsTable (λ node. l.e + position_or_len (λ x. to l.f.graph x == node) (drop l.e (range_with_len 0 (edge_count l.f.graph)))) l.f.graph.nodes l.edges.items
