use Rattle.std.proofs.Common.{◌≡◌, ◌++◌, drop, map}
use Rattle.graph_json.specs.Json.{node_json}
use Rattle.graph_json.specs.Placed.{placed_json}
use Rattle.graph_json.proofs.json_graph.placed_nodes.Given as goal

abbrev pub invariant-loop-node : goal.invariant-loop-node
invariant-loop-node l = map placed_json l.placed.items ++ map (node_json l.flow) (drop l.node-index l.nodes) ≡ map (node_json l.flow) l.nodes
